-- Two machines side by side, of which the second is made from the first by putting its places somewhere else.
use Rattle.std.proofs.lemmas.List.{map-id}
use Rattle.event_laws.proofs.Common.{◌≡◌, Bool, List, [], ◌∷◌, map, ℕ, refl, ap, arith, Marker, Remaining, State, Machine, Anchors, Names, Emitted, Beside, EndsAlike, With, Alike}

-- other tokens, places and another setting
abbrev pub moved : (Marker → Marker) → Remaining → Bool → Machine → Machine
moved f r b m = record m { tokens = r; pair_ends = map f m.pair_ends; keep_tags = b }

all_placed : (w : Beside) (f : Marker → Marker) → ((p : Marker) → w.Spans p p (f p) (f p)) → (ps : List Marker)
    → EndsAlike w ps (map f ps)
all_placed w f h [] = tt
all_placed w f h (p ∷ ps) = (h p, all_placed w f h ps)

pub puts : (w : Beside) (T : Remaining → Remaining → Type 0) (f : Marker → Marker) (r : Remaining) (b : Bool)
    (m : Machine) → ((p : Marker) → w.Spans p p (f p) (f p)) → T m.tokens r → w.Setting m.keep_tags b
    → With w T m (moved f r b m)
puts w T f r b m h t k =
    record {
      tokens = t;
      states = refl;
      pair_ends = all_placed w f h m.pair_ends;
      anchors = refl;
      prefixes = refl;
      setting = k;
    }

all_only : (w : Beside) (f : Marker → Marker) → ((p q : Marker) → w.Spans p p q q → q ≡ f p) → (ps qs : List Marker)
    → EndsAlike w ps qs → qs ≡ map f ps
all_only w f h [] [] e = refl
all_only w f h [] (q ∷ qs) e = absurd e
all_only w f h (p ∷ ps) [] e = absurd e
all_only w f h (p ∷ ps) (q ∷ qs) e = rw (h p q e.0) (cc (all_only w f h ps qs e.1))

-- the second machine, if its tokens are these
pub becomes : (w : Beside) (T : Remaining → Remaining → Type 0) (f : Marker → Marker) (r : Remaining) (b : Bool)
    (m n : Machine) → ((p q : Marker) → w.Spans p p q q → q ≡ f p) → n.state ≡ m.state → With w T m n
    → n.tokens ≡ r → n.keep_tags ≡ b → n ≡ moved f r b m
becomes w T f r b m n h e near t k =
    by n.tokens n.state n.states n.pair_ends n.anchors n.prefixes n.keep_tags t e near.states
    (all_only w f h m.pair_ends n.pair_ends near.pair_ends) near.anchors near.prefixes k
  where
    by : (q : Remaining) (s : State) (ss : List State) (ps : List Marker) (a : Anchors) (x : Names (List ℕ)) (c : Bool)
        → q ≡ r → s ≡ m.state → ss ≡ m.states → ps ≡ map f m.pair_ends → a ≡ m.anchors → x ≡ m.prefixes → c ≡ b
        → record { tokens = q; state = s; states = ss; pair_ends = ps; anchors = a; prefixes = x; keep_tags = c }
        ≡ moved f r b m
    by q s ss ps a x c e0 e1 e2 e3 e4 e5 e6 = rw (e0, e1, e2, e3, e4, e5, e6) refl

-- the same event, with the second machine
pub emits_so : (w : Beside) (f : Marker → Marker) (x y : Emitted) (n : Machine)
    → ((p q : Marker) → w.Spans p p q q → q ≡ f p) → Alike w x y → y.machine ≡ n
    → y ≡ record { what = x.what; span = record { start = f x.span.start; end = f x.span.end }; machine = n }
emits_so w f x y n h a is = grind arith

-- ## Where places stay

pub stay : (r : Remaining) (b : Bool) (m : Machine) → moved (λ p. p) r b m ≡ record m { tokens = r; keep_tags = b }
stay r b m = ap (λ (ps : List Marker). record m { tokens = r; pair_ends = ps; keep_tags = b }) (map-id m.pair_ends)

pub leaves : (w : Beside) (T : Remaining → Remaining → Type 0) (r : Remaining) (b : Bool) (m : Machine)
    → ((p : Marker) → w.Spans p p p p) → T m.tokens r → w.Setting m.keep_tags b
    → With w T m (record m { tokens = r; keep_tags = b })
leaves w T r b m h t k = rw (stay r b m) at (puts w T (λ p. p) r b m h t k)
