-- A parser of a text that comes in pieces is made, copied, and set to keep prefixes of tags or not.
use Rattle.std.proofs.Common.{◌≡◌, Bool, List, ℕ, ◌++◌, ap, refl, sym, ◌∙◌, subst}
use Rattle.std.specs.Str.{chars}
use Rattle.std.specs.declared.boxed.Box.{Box}
use Rattle.std.specs.Global.{Global}
use Rattle.saphyr_parser.specs.Cursor.{keeping_tags}
use Rattle.saphyr_pieces.specs.Pieces.{at}
use Rattle.yaml_tree.specs.Tables.{IsEmptyTable}
use Rattle.saphyr_parser_c.specs.declared.coming.Coming.{Coming}
use Rattle.saphyr_parser_c.specs.declared.inner.Inner.{Inner}
use Rattle.saphyr_parser_c.specs.declared.source.Source.{Source}
use Rattle.saphyr_parser_c.specs.declared.source.Source.TheVariants as source
use Rattle.saphyr_parser_c.specs.Coming.{IsOfNothing, at_bytes}
use Rattle.saphyr_parser_c.specs.Coming.{IsCopyOfPieces, KeepsRest}
use Rattle.saphyr_parser_c.specs.Inner.{IsCopyOfParser, IsFresh, IsOfPieces, IsShownCopy, IsSourceCopy, IsSourceOf, KeepsFrom, KeepsTrees}

pub made_of_pieces : (keep : Bool) (characters bytes : ℕ) (coming : Coming) (s : Source) (inner : Inner)
    → IsOfNothing keep characters bytes coming → IsSourceOf coming s → inner.source ≡ s → IsFresh inner
    → IsOfPieces keep characters bytes inner
made_of_pieces keep characters bytes coming s inner nothing (box, boxed, holds) is fresh = record {
  coming = box;
  nothing = subst (IsOfNothing keep characters bytes) (sym holds) nothing;
  source = is ∙ boxed;
  event = fresh;
}

pub place_kept : (keep : Bool) (old new : Coming)
    → ((later : List ℕ) → at new.parser later ≡ keeping_tags keep (at old.parser later)) → KeepsRest old new
    → (later : List ℕ) → at_bytes new later ≡ keeping_tags keep (at_bytes old later)
place_kept keep old new kept same later =
    ap (λ (c : Coming). at new.parser (chars (c.waiting.items ++ later))) same.0
    ∙ kept (chars (old.waiting.items ++ later))

pub keeps_from_pieces : (keep : Bool) (old : Source) (coming new : Box Coming Global) → old ≡ source.Pieces coming
    → ((later : List ℕ) → at new.value.parser later ≡ keeping_tags keep (at coming.value.parser later))
    → KeepsRest coming.value new.value → new.value.last_end ≡ coming.value.last_end
    → KeepsFrom old keep (source.Pieces new)
keeps_from_pieces keep old coming new is kept same last =
    subst (λ (s : Source). KeepsFrom s keep (source.Pieces new)) (sym is)
    (new, refl, same, place_kept keep coming.value new.value kept same, last)

pub source_copied : (s copy : Source) (old : Box Coming Global) (new : Coming) → s ≡ source.Pieces old
    → IsCopyOfPieces old.value new → IsSourceOf new copy → IsSourceCopy s copy
source_copied s copy old new is same (box, boxed, holds) =
    subst (λ (x : Source). IsSourceCopy x copy) (sym is)
    (box, boxed, subst (IsCopyOfPieces old.value) (sym holds) same)

pub copied : (inner before after : Inner) (s : Source) → before.source ≡ s → IsFresh before
    → IsSourceCopy inner.source s → after.source ≡ before.source → KeepsTrees before after
    → (IsFresh before → IsShownCopy inner.shown inner after) → IsCopyOfParser inner after
copied inner before after s is (none, empty) same stays trees shown = (
  subst (IsSourceCopy inner.source) (sym (stays ∙ is)) same,
  shown (none, empty),
  (subst IsEmptyTable (sym trees.0) empty.0, trees.1 ∙ empty.1),
)
