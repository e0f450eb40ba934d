-- Each spelled anchor is read, and what is read as one is spelled so.
use Rattle.saphyr_scalar.proofs.Common.{◌≡◌, ◌≢◌, ℕ, ◌+◌, ◌<◌, false, List, [], ◌∷◌, ◌++◌, length, drop, take, slice_index, nat_eq, ◌==◌, Ok, refl, sym, ap, ◌∙◌, encode_utf8_all, take-append-drop, is_anchor_char, Marker, Cursor, along, pass, prefix_len, first_and_rest, run_ends}
use Rattle.saphyr_scalar.specs.Steps.Quoted.{mid_line, with_run}
use Rattle.saphyr_scalar.specs.Steps.Anchor.{anchor, anchor_name_of}
use Rattle.saphyr_scalar.specs.Spelling.Tag.{IsAnchorName}
use Rattle.saphyr_scalar.proofs.Moving.{along_more}
use Rattle.saphyr_scalar.proofs.Runs.{run_read, run_is_in}
use Rattle.saphyr_scalar.proofs.Properties.TagsRead.{some_bytes}
use Rattle.saphyr_scalar.proofs.Steps.{ok_same, cond_not}
use Rattle.saphyr_scalar.proofs.Properties.TagsSpelled.{some_value}
use Rattle.saphyr_scalar.proofs.Directives.NamesSpelled.{run_count}
use Rattle.saphyr_scalar.proofs.Given.{text_given}

anchor_same : (s : Cursor) → anchor s ≡ anchor (mid_line s.mark s.rest)
unfolding anchor
anchor_same s = refl

name_read : (start : Marker) (name : List ℕ) (s : Cursor) → name ≢ []
    → anchor_name_of start (encode_utf8_all name, s) ≡ Ok (encode_utf8_all name, s)
unfolding anchor_name_of
name_read start name s some = rw (some_bytes name some) refl

at_name : (m : Marker) (indicator : ℕ) (name x : List ℕ) → IsAnchorName name → is_anchor_char (slice_index x 0) ≡ false
    → anchor (mid_line m (indicator ∷ (name ++ x))) ≡ Ok (encode_utf8_all name, mid_line (along m (1 + length name)) x)
unfolding anchor
at_name m indicator name x (some, are) ends =
    ap (anchor_name_of m) (run_read is_anchor_char (along m 1) name x are ends)
    ∙ name_read m name (mid_line (along (along m 1) (length name)) x) some
    ∙ ap (λ k. text_given (encode_utf8_all name) (mid_line k x)) (along_more m 1 (length name) (1 + length name) refl)

pub reads_anchor : (s : Cursor) (indicator : ℕ) (name x : List ℕ) → s.rest ≡ indicator ∷ (name ++ x) → IsAnchorName name
    → is_anchor_char (slice_index x 0) ≡ false
    → anchor s ≡ Ok (encode_utf8_all name, mid_line (along s.mark (1 + length name)) x)
reads_anchor s indicator name x e is ends = cc (anchor_same s, at_name s.mark indicator name x is ends)

-- a name that was read has a character
named : (start : Marker) (x : List ℕ × Cursor) (text : List ℕ) (t : Cursor) → anchor_name_of start x ≡ Ok (text, t)
    → (x ≡ (text, t)) × ((length x.0 == 0) ≡ false)
unfolding anchor_name_of
named start x text t h =
    let is = cond_not {A = List ℕ × Cursor} (nat_eq (length x.0) 0) (Ok x) (text, t) _ h in
    (ok_same {A = List ℕ × Cursor} x (text, t) is.same, is.test)

pub spells_anchor : (s t : Cursor) (text : List ℕ) → 0 < length s.rest → anchor s ≡ Ok (text, t)
    → (indicator : ℕ) × (name : List ℕ) × (s.rest ≡ indicator ∷ (name ++ t.rest)) × IsAnchorName name
    × (is_anchor_char (slice_index t.rest 0) ≡ false) × (t ≡ mid_line (along s.mark (1 + length name)) t.rest)
    × (encode_utf8_all name ≡ text)
unfolding anchor
spells_anchor s t text some h =
    let is = named s.mark (with_run is_anchor_char [] (pass 1 s)) text t h in
    let ys = drop 1 s.rest in
    let n = prefix_len is_anchor_char ys in
    let behind : pass n (pass 1 s) ≡ t = ap (λ (x : List ℕ × Cursor). x.1) is.0 in
    let rest : drop n ys ≡ t.rest = ap (λ (x : Cursor). x.rest) behind in (
      slice_index s.rest 0,
      take n ys,
      first_and_rest s.rest some
          ∙ ap (λ r. slice_index s.rest 0 ∷ r) (sym (take-append-drop n ys) ∙ ap (λ r. take n ys ++ r) rest),
      (some_value (take n ys) is.1, run_is_in is_anchor_char ys),
      rw (← rest) (run_ends is_anchor_char ys refl),
      sym behind ∙ cc (run_count is_anchor_char ys, along_more s.mark 1 n (1 + n) refl, rest),
      ap (λ (x : List ℕ × Cursor). x.0) is.0,
    )
