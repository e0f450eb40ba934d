-- What a piece of a text becomes where the text's breaks are normalized.
use Rattle.yaml_laws.proofs.Common.{List, [], append_assoc, arith, false, refl, true, ℕ, ◌++◌, ◌∷◌, ◌≡◌, ◌==◌, nat_tests, normal_break, normalized, AreIn, IsWhite, IsWhiteSpace}
use Rattle.yaml_laws.proofs.Json.White.{is_white}
use Rattle.yaml_laws.proofs.Json.Calm.{is_no_break}

-- the piece t before x, of whose normalized text P holds
pub record Becomes (P : List ℕ → Type 0) (t x : List ℕ) : Type 0 where
  pub text : List ℕ
  pub normal : normalized (t ++ x) ≡ text ++ normalized x
  pub holds : P text

-- one piece and another after it
abbrev pub Both : (List ℕ → Type 0) → (List ℕ → Type 0) → List ℕ → Type 0
Both P Q t = (front back : List ℕ) × P front × Q back × (t ≡ front ++ back)

pub become_both : {P Q : List ℕ → Type 0} (a b x : List ℕ) → Becomes P a (b ++ x) → Becomes Q b x
    → Becomes (Both P Q) (a ++ b) x
become_both a b x p q = record {
  text = p.text ++ q.text;
  normal = cc (append_assoc a b x, append_assoc p.text q.text (normalized x));
  holds = (p.text, q.text, p.holds, q.holds, refl);
}

pub becomes_so : {P Q : List ℕ → Type 0} {t x : List ℕ} → ((n : List ℕ) → P n → Q n) → Becomes P t x → Becomes Q t x
becomes_so f p = record { text = p.text; normal = p.normal; holds = f p.text p.holds }

-- ## A piece without a break stays

no_return : (c : ℕ) → is_no_break c ≡ true → (c == 13) ≡ false
no_return c h = grind (arith, nat_tests)

stays_normal : (t x : List ℕ) → AreIn is_no_break t → normalized (t ++ x) ≡ t ++ normalized x
stays_normal [] x h = refl
stays_normal (c ∷ cs) x h = rw (no_return c h.0) (cc (stays_normal cs x h.1))

pub stays : {P : List ℕ → Type 0} (t x : List ℕ) → AreIn is_no_break t → P t → Becomes P t x
stays t x h p = record { text = t; normal = stays_normal t x h; holds = p }

-- ## White space stays white space

white_break : (c : ℕ) (others : List ℕ) → IsWhite c → AreIn is_white (normal_break c others)
white_break c others h = grind arith

pub white_both : (a b : List ℕ) → AreIn is_white a → AreIn is_white b → AreIn is_white (a ++ b)
white_both [] b h k = k
white_both (c ∷ cs) b h k = (h.0, white_both cs b h.1 k)

pub white_becomes : (w x : List ℕ) → IsWhiteSpace w → Becomes (AreIn is_white) w x
white_becomes [] x h = record { text = []; normal = refl; holds = tt }
white_becomes (c ∷ w) x h =
    let r = white_becomes w x h.1 in
    let first = normal_break c (w ++ x) in
    record {
      text = first ++ r.text;
      normal = cc (append_assoc first r.text (normalized x));
      holds = white_both first r.text (white_break c (w ++ x) h.0) r.holds;
    }
