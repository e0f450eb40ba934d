-- Separation is refused after what is passed of it, and a directive where it begins, at its name, or in the separation
-- after it.
use Rattle.std.proofs.Common.{◌≡◌, ℕ, suc, ◌+◌, ◌-◌, ◌*◌, List, [], ◌∷◌, ◌++◌, length, length-append, append_assoc, arith, drop, slice_index, Ok, refl, sym, ap, ◌∙◌, nat_lt, codes, encode_utf8, encode_utf8_all}
use Rattle.saphyr_scalar.proofs.Common.{◌||◌, ◌&&◌, ◌==◌, bytes_eq, percent_sign, is_bom, is_breakz, is_tag_char, separation_len, is_bare_comment, SkipTabs, Yes, Marker, Refusal, Uri, by_test}
use Rattle.saphyr_scalar.specs.Views.Cursor.{Cursor, along, pass_blanks, separation, behind_separation}
use Rattle.saphyr_scalar.specs.Steps.Directive.{directive_name_of, name, number_end, number_from, behind_major, version_directive, handle_behind_word, handle, prefix, behind_prefix, tag_directive, value, line_end, directive}
use Rattle.saphyr_scalar.specs.Spelling.Directive.{ReadDirective}
use Rattle.saphyr_scalar.specs.Passing.{IsPassed, nothing, character}
use Rattle.saphyr_scalar.specs.Steps.Quoted.{mid_line}
use Rattle.saphyr_scalar.specs.RefusedInside.{IsRefusedInside}
use Rattle.saphyr_scalar.specs.Steps.Tag.{uri_character, decoded_at}
use Rattle.saphyr_scalar.proofs.Directives.NamesSpelled.{name_spelled}
use Rattle.saphyr_scalar.proofs.Directives.ValuesSpelled.{value_spelled}
use Rattle.saphyr_scalar.proofs.NoBreaks.{no_breaks_passed, directive_no_break}
use Rattle.saphyr_scalar.proofs.Block.PlacedHeaders.{line_passed}
use Rattle.saphyr_scalar.proofs.Places.{along_three}
use Rattle.saphyr_scalar.proofs.RefusedOnWay.{inside_from, refused_there, inside_start}
use Rattle.saphyr_scalar.proofs.Given.{Refused, RefusedAt, refused_bind, refused_more}
use Rattle.saphyr_scalar.proofs.Properties.Refused.{character_refused, front_refused, decoded_refused}
use Rattle.saphyr_scalar.proofs.Properties.TagsSpelled.{cut_at}

pub separation_refused : (tabs : SkipTabs) (s : Cursor) → Refused (IsRefusedInside s) (separation tabs s)
unfolding separation behind_separation
separation_refused tabs s =
    let t : Cursor = pass_blanks (separation_len tabs s.rest) s in
    let there : IsPassed s.mark s.rest t.mark t.rest = (line_passed tabs s).passes in
    by_test (nat_lt 0 t.mark.col && is_bom (slice_index t.rest 0)) _ _ (Refused (IsRefusedInside s))
    (λ _. (t.rest, there))
    (λ _. by_test (is_bare_comment tabs s.rest) _ _ (Refused (IsRefusedInside s)) (λ _. (t.rest, there)) (λ _. tt))

-- ## Directives

name_refused : (s : Cursor) → RefusedAt s.mark (name s)
unfolding name directive_name_of
name_refused s = grind arith

number_ended : (start : Marker) (n v : ℕ) (s : Cursor) → RefusedAt start (number_end start n v s)
unfolding number_end
number_ended start n v s = by_test (n == 0) _ _ (RefusedAt start) (λ _. refl) (λ _. tt)

number_refused : (start : Marker) (n v : ℕ) (m : Marker) (t : List ℕ) → RefusedAt start (number_from start n v m t)
unfolding number_from
number_refused start n v m [] = number_ended start n v (mid_line m [])
number_refused start n v m (c ∷ cs) =
    grind (arith, number_ended, by_test, number_refused start (suc n) (v * 10 + (c - 48)) (along m 1) cs)

prefix_refused : (start : Marker) (s : Cursor) → RefusedAt start (prefix start s)
unfolding prefix
prefix_refused start s =
    let P : Refusal → Type 0 = λ e. e.mark ≡ start in
    by_test ((slice_index s.rest 0 == 33) || is_tag_char (slice_index s.rest 0)) _ _ (RefusedAt start)
    (λ _. refused_bind P (uri_character start s) _ (character_refused start s) (λ x e.
    front_refused P (encode_utf8 x.0) (decoded_at Uri start x.1) (decoded_refused Uri start 0 x.1.mark x.1.rest)))
    (λ _. refl)

tag_refused : (start : Marker) (s : Cursor) → RefusedAt start (tag_directive start s)
unfolding tag_directive behind_prefix handle handle_behind_word
tag_refused start s = grind (arith, refused_bind, prefix_refused, by_test, slice_index)

value_refused : (start : Marker) (x : List ℕ × Cursor) → RefusedAt start (value start x)
unfolding value version_directive behind_major
value_refused start x = by_test (bytes_eq x.0 (codes "YAML")) _ _ (RefusedAt start)
    (λ _. (grind (arith, refused_bind, number_refused, by_test, slice_index)))
    (λ _. by_test (bytes_eq x.0 (codes "TAG")) _ _ (RefusedAt start) (λ _. tag_refused start x.1) (λ _. tt))

-- the end of a line that was reached from s
end_refused : (s t : Cursor) → IsPassed s.mark s.rest t.mark t.rest → Refused (IsRefusedInside s) (line_end s.mark t)
unfolding line_end
end_refused s t p = refused_bind (IsRefusedInside s) (separation Yes t) _
    (refused_more (IsRefusedInside t) (IsRefusedInside s) (separation Yes t) (separation_refused Yes t)
    (λ e h. inside_from s t e p h))
    (λ x _. by_test (is_breakz (slice_index x.1.rest 0)) _ _ (Refused (IsRefusedInside s)) (λ _. tt)
    (λ _. (s.rest, nothing s.mark s.rest)))

-- the place after what a directive says
value_passed : (m : Marker) (ys : List ℕ) (x : List ℕ × Cursor) (d : ReadDirective × Cursor)
    → name (mid_line (along m 1) ys) ≡ Ok x → value m x ≡ Ok d → IsPassed m (percent_sign ∷ ys) d.1.mark d.1.rest
value_passed m ys x d h k =
    let n = name_spelled (along m 1) ys x.0 x.1 h in
    let here : Marker = along (along m 1) (length n.word) in
    let read : value m (encode_utf8_all n.word, mid_line here x.1.rest) ≡ Ok d =
    ap (λ v. value m (v, mid_line here x.1.rest)) n.bytes ∙ ap (λ (y : Cursor). value m (x.0, y)) (sym n.place) ∙ k in
    let is = value_spelled m here n.word x.1.rest d.0 d.1 n.some n.all n.ends read in
    let t : List ℕ = 37 ∷ (n.word ++ is.more) in
    let text : 37 ∷ ys ≡ t ++ d.1.rest =
    ap (λ r. 37 ∷ r) (n.text_is ∙ ap (λ r. n.word ++ r) is.text ∙ sym (append_assoc n.word is.more d.1.rest)) in
    let end : d.1.mark ≡ along m (length t) = ap (λ (y : Cursor). y.mark) is.place
    ∙ along_three m 1 (length n.word) (length is.more) (length t) (omega (arith, length-append n.word is.more)) in
    rw end (rw text (no_breaks_passed m t d.1.rest (directive_no_break d.0 t is.is)))

directive_refused_at : (m : Marker) (ys : List ℕ)
    → Refused (IsRefusedInside (mid_line m (percent_sign ∷ ys))) (directive (mid_line m (percent_sign ∷ ys)))
unfolding directive
directive_refused_at m ys =
    let s : Cursor = mid_line m (37 ∷ ys) in
    let behind : Cursor = mid_line (along m 1) ys in
    let P = IsRefusedInside s in
    refused_bind P (name behind) _ (refused_more (λ e. e.mark ≡ behind.mark) P (name behind) (name_refused behind)
    (refused_there s behind (character m 37 ys behind.mark ys refl (nothing behind.mark ys))))
    (λ x h. refused_bind P (value m x) _
    (refused_more (λ e. e.mark ≡ m) P (value m x) (value_refused m x) (inside_start s))
    (λ d k. refused_bind P (line_end m d.1) _ (end_refused s d.1 (value_passed m ys x d h k)) (λ t _. tt)))

pub directive_refused : (s : Cursor) → slice_index s.rest 0 ≡ percent_sign → Refused (IsRefusedInside s) (directive s)
unfolding directive
directive_refused s begins =
    let more = cut_at 37 s.rest refl begins in rw more (directive_refused_at s.mark (drop 1 s.rest))
