use Rattle.std.proofs.Common.{IsUtf8, refl, subst}
use Rattle.saphyr_input.proofs.ListedChars.{chars_lists, chars_listed}
use Rattle.saphyr_input.proofs.law.lists_characters.Goals as goal

pub returns-clause-lists : goal.returns-clause-lists
returns-clause-lists c = chars_lists _ _ (subst IsUtf8 c.as_str.ensures c.as_str.utf8) refl

pub returns-clause-listed : goal.returns-clause-listed
returns-clause-listed c = chars_listed _ _ (subst IsUtf8 c.as_str.ensures c.as_str.utf8) refl
