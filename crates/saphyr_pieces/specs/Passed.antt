-- The tokens that a reader passed since its last event.
use Rattle.std.specs.Prelude.{List, [], ◌∷◌, Option, Some, None}
use Rattle.saphyr_scanner.specs.Views.Tokens.{Piece}
use Rattle.saphyr_machine.specs.declared.idle.PassedToken.{PassedToken}
use Rattle.saphyr_machine.specs.Passed.{piece_of}
use Rattle.saphyr_pieces.specs.declared.pieces.passed.Passed.{Passed}

abbrev pub passed_tokens : Option Passed → List Piece
passed_tokens None = []
passed_tokens (Some p) = p.tokens

abbrev pub token_pieces : Option PassedToken → List Piece
token_pieces None = []
token_pieces (Some t) = piece_of t ∷ []
