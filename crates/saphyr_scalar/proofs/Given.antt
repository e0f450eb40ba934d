-- What a step gives, if it is not refused: its value, and where it is; and what is known of a refusal.
use Rattle.saphyr_scalar.proofs.Common.{◌≡◌, ℕ, Bool, List, Result, Ok, Err, refl, subst, Marker, Refusal, Cursor, ◌>>=◌}

-- what is given, if something is, has this property
abbrev pub Given : {X : Type 0} → (X → Type 0) → Result X Refusal → Type 0
Given P (Ok x) = P x
Given P (Err e) = Unit {0}

pub given_bind : {X Y : Type 0} → (P : Y → Type 0) (r : Result X Refusal) (f : X → Result Y Refusal)
    → ((x : X) → r ≡ Ok x → Given P (f x)) → Given P (r >>= f)
given_bind P (Ok x) f h = h x refl
given_bind P (Err e) f h = tt

pub given_of : {X : Type 0} → (P : X → Type 0) (r : Result X Refusal) (x : X) → Given P r → r ≡ Ok x → P x
given_of P (Ok y) x h e = let same : y ≡ x = cc in subst P same h
given_of P (Err f) x h e = absurd (cc)

pub given_map : {X : Type 0} → (P Q : X → Type 0) (r : Result X Refusal) → ((x : X) → P x → Q x) → Given P r → Given Q r
given_map P Q (Ok x) f h = f x h
given_map P Q (Err e) f h = tt

-- what two steps give, the first gave something for
pub bind_ok : {X Y : Type 0} → (r : Result X Refusal) (f : X → Result Y Refusal) (y : Y) → (r >>= f) ≡ Ok y
    → (x : X) × (r ≡ Ok x) × (f x ≡ Ok y)
bind_ok (Ok x) f y e = (x, refl, e)
bind_ok (Err d) f y e = absurd (cc)

-- ## Refusals

-- what is refused, if anything is, has this property
abbrev pub Refused : {X : Type 0} → (Refusal → Type 0) → Result X Refusal → Type 0
Refused P (Ok x) = Unit {0}
Refused P (Err e) = P e

pub refused_bind : {X Y : Type 0} → (P : Refusal → Type 0) (r : Result X Refusal) (f : X → Result Y Refusal)
    → Refused P r → ((x : X) → r ≡ Ok x → Refused P (f x)) → Refused P (r >>= f)
refused_bind P (Ok x) f h k = k x refl
refused_bind P (Err e) f h k = h

pub refused_of : {X : Type 0} → (P : Refusal → Type 0) (r : Result X Refusal) (e : Refusal) → Refused P r → r ≡ Err e
    → P e
refused_of P (Ok x) e h is = absurd (cc)
refused_of P (Err d) e h is = let same : d ≡ e = cc in subst P same h

pub refused_more : {X : Type 0} → (P Q : Refusal → Type 0) (r : Result X Refusal) → Refused P r
    → ((e : Refusal) → P e → Q e) → Refused Q r
refused_more P Q (Ok x) h k = tt
refused_more P Q (Err e) h k = k e h

-- refused where it began
abbrev pub RefusedAt : {X : Type 0} → Marker → Result X Refusal → Type 0
RefusedAt start r = Refused (λ e. e.mark ≡ start) r

-- ## Results

-- a text and where it is left
abbrev pub text_given : List ℕ → Cursor → Result (List ℕ × Cursor) Refusal
text_given text s = Ok (text, s)

abbrev pub number_given : ℕ → Cursor → Result (ℕ × Cursor) Refusal
number_given n s = Ok (n, s)

-- the place in a text, and whether only blanks come before it on its line
abbrev pub cursor_at : List ℕ → Marker → Bool → Cursor
cursor_at xs m blank = record { rest = xs; mark = m; blank_so_far = blank }
