-- What waits are the bytes that the reader did not pass, and those behind them.
use Rattle.std.proofs.Common.{◌≡◌, ◌++◌, ◌∙◌, ◌+◌, ℕ, List, ap, arith, length, length-append, sym}
use Rattle.std.specs.Prelude.{IsUtf8, string_bytes}
use Rattle.std.specs.Str.{chars, encode_utf8_all}
use Rattle.std.proofs.lemmas.Str.{IsUtf8-string_bytes, encodes-append, encodes-chars, length-le-encodes}
use Rattle.saphyr_pieces.specs.Pieces.{waiting}
use Rattle.saphyr_pieces.specs.Views.{pieces_of}
use Rattle.saphyr_pieces.proofs.pieces.PieceReader.waiting.Goals as goal

both : (bytes more rest : List ℕ) → IsUtf8 bytes → IsUtf8 more → chars bytes ≡ rest
    → length (encode_utf8_all (rest ++ chars more)) ≡ length bytes + length more
both bytes more rest u v e =
    ap length (encodes-append rest (chars more)
    ∙ ap (λ (bs : List ℕ). bs ++ encode_utf8_all (chars more)) (ap encode_utf8_all (sym e) ∙ encodes-chars bytes u)
    ∙ ap (λ (bs : List ℕ). bytes ++ bs) (encodes-chars more v)) ∙ length-append bytes more

pub returns-clause-bytes : goal.returns-clause-bytes
returns-clause-bytes c =
    let self = c.args.self.now in
    let told = both c.as_str.result.now (string_bytes self.more) _ c.as_str.utf8 (IsUtf8-string_bytes self.more)
    (c.as_str.ensures ∙ c.input.ensures) in
    omega (arith, told, c.len.ensures)

pub returns-clause-characters : goal.returns-clause-characters
returns-clause-characters c =
    let self = c.args.self.now in
    let told = both c.as_str.result.now (string_bytes self.more) _ c.as_str.utf8 (IsUtf8-string_bytes self.more)
    (c.as_str.ensures ∙ c.input.ensures) in
    omega (arith, told, c.len.ensures, length-le-encodes (waiting (pieces_of self)))
