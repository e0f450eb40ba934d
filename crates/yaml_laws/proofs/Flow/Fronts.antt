-- A text in flow style after its properties, or without any.
use Rattle.std.proofs.Common.{◌≡◌, ◌≢◌, ℕ, ◌≤◌, List, [], ◌++◌, length, refl, sym, ap, ◌∙◌, arith, subst, append_assoc, inl, inr, Bool}
use Rattle.yaml_laws.proofs.Common.{not, Marker, IsSeparation, Kind, Place, State, is_block, Properties, saved, IsProperties, IsBeforeContent}
use Rattle.saphyr_scanner.specs.Grammar.TokenGrammar as grammar
use Rattle.yaml_laws.proofs.InFlow.States.{Around, state_at, FlowMoment, not_more, Ready}
use Rattle.yaml_laws.proofs.Flow.States.{moved, Fits, ReaderPromises, Since, keeping, PassesPiece, PassesNoting, IsAfterNode, after_node, after, TextPasses}
use Rattle.yaml_laws.proofs.Flow.Places.{moved_append, moved_index}
use Rattle.yaml_laws.proofs.Flow.KeyPieces.{cut_front, cut_back}
use Rattle.yaml_laws.proofs.Flow.ContentStarts.{Begins, begins_content}
use Rattle.yaml_laws.proofs.Flow.Tokens.{part_ready}
use Rattle.yaml_laws.proofs.Flow.Joins.{since_join, join, separation_joins}
use Rattle.yaml_laws.proofs.Flow.Ends.{white_ends_tag, ends_behind_separation}
use Rattle.yaml_laws.proofs.Flow.Properties.{behind_properties, properties_read}

-- the tokens of properties, and others after them
abbrev pub AreFronted : Properties → (List Kind → Type 0) → List Kind → Type 0
AreFronted p Is ts = (a b : List Kind) × grammar.YieldProperties p a × Is b × (ts ≡ a ++ b)

-- the text c is passed where it comes after a front that was passed, or where that is empty
abbrev pub PassesBehind : Around → FlowMoment → Marker → (List Kind → Type 0) → (List ℕ → Bool) → Marker → List ℕ
    → List ℕ → Type 0
PassesBehind around now m Is allows end c o =
    (e : Marker) → moved e c ≡ end → m.index ≤ e.index → (next : FlowMoment)
    → next.context ≡ now.context → next.outer ≡ now.outer → next.adjacent ≡ now.adjacent
    → Fits around next.context e c o → (start : Bool → State) → Ready around start next e (c ++ o)
    → TextPasses around start next Is allows e c o

no_less : (m : Marker) (t : List ℕ) → m.index ≤ (moved m t).index
no_less m t = let i = moved_index m t in omega (arith, i)

-- Properties t and separation v were passed, and the text c is. As one text they have the first piece of the
-- properties, and where a colon may come at once is told by c. The key is that of the properties: no key may begin
-- behind them, so c begins none (`still`).
front_joins : (around : Around) (start : Bool → State) (now : FlowMoment) (p : Properties) (Is : List Kind → Type 0)
    (allows : List ℕ → Bool) (m : Marker) (t v c o : List ℕ) (ts : List Kind) → grammar.YieldProperties p ts
    → (q : PassesPiece around start (behind_properties now.context (keeping now m t) now.adjacent) now.context
    now.outer now.places (moved m (t ++ v)) (c ++ o) ts)
    → TextPasses around (state_at around (after q)) (after q) Is allows (moved m (t ++ v)) c o
    → TextPasses around start now (AreFronted p Is) allows m ((t ++ v) ++ c) o
front_joins around start now p Is allows m t v c o ts are q r =
    let here = moved m (t ++ v) in
    let kept = keeping now m ((t ++ v) ++ c) in
    let front = q.knows.properties in
    let b = r.passes in
    let still = ap (λ (z : Bool). saved z (length (now.places ++ q.new)) here q.key) front.closed in
    let known : IsAfterNode around.indent now.context kept allows (moved here c) o b.key b.adjacent (q.new ++ b.new) =
    record {
      piece = front.piece;
      others = front.others ++ b.new;
      is = ap (λ (z : List Place). z ++ b.new) front.is;
      keeps = λ e. b.knows.keeps e ∙ still ∙ front.keeps e;
      since = subst (λ (z : List ℕ). Since now.key m z b.key) (sym (append_assoc t v c))
          (since_join now.key m t v c q.key b.key q.knows.since
          (subst (λ (z : Marker). Since q.key z c b.key) (moved_append m t v) b.knows.since));
      near = b.knows.near;
      low = b.knows.low;
    } in
    record {
      tokens = ts ++ r.tokens;
      are = (ts, r.tokens, are, r.are, refl);
      comment = r.comment;
      none = r.none;
      passes = subst (λ (e : Marker). PassesNoting r.comment around start
          (after_node around.indent now.context kept allows e o) now.context now.outer now.places e o
          (ts ++ r.tokens)) (sym (moved_append m (t ++ v) c))
          (join q b (after_node around.indent now.context kept allows (moved here c) o) known);
    }

-- Behind properties t and separation v a text is passed: the properties are read, and the separation is joined to their
-- run. From where that ends, `pass` tells of the text.
behind_properties_passes : ReaderPromises → (around : Around) (p : Properties) (Is : List Kind → Type 0)
    (allows : List ℕ → Bool) (m : Marker) (t v c o : List ℕ) → IsProperties p around.indent t → v ≢ []
    → IsSeparation around.indent v → Begins c → (now : FlowMoment) → Fits around now.context m ((t ++ v) ++ c) o
    → (start : Bool → State) → Ready around start now m (((t ++ v) ++ c) ++ o)
    → PassesBehind around now m Is allows (moved m ((t ++ v) ++ c)) c o
    → TextPasses around start now (AreFronted p Is) allows m ((t ++ v) ++ c) o
behind_properties_passes reads around p Is allows m t v c o h some gap begins now fits start ready pass =
    let first : Fits around now.context m t (v ++ (c ++ o)) =
    cut_front m t v c o (begins_content c begins) gap (rw (append_assoc t v c) at fits) in
    let first_ready : Ready around start now m (t ++ (v ++ (c ++ o))) =
    rw (append_assoc (t ++ v) c o, append_assoc t v (c ++ o)) at ready in
    let pp = properties_read reads around p.anchor p.tag m t (v ++ (c ++ o)) h now
    (white_ends_tag (not (is_block now.context)) (v ++ (c ++ o))
    (ends_behind_separation around.indent v (c ++ o) gap some)) first start first_ready in
    with_front (rw (sym (moved_append m t v)) at (separation_joins (moved m t) v (c ++ o) gap pp.passes)) pp.are
  where
    with_front : {ts : List Kind} → PassesPiece around start
        (behind_properties now.context (keeping now m t) now.adjacent) now.context now.outer now.places
        (moved m (t ++ v)) (c ++ o) ts → grammar.YieldProperties p ts
        → TextPasses around start now (AreFronted p Is) allows m ((t ++ v) ++ c) o
    with_front {ts} q are =
        let f = t ++ v in
        let here = moved m f in
        let inner = cut_back m f c o q.right fits in
        front_joins around start now p Is allows m t v c o ts are q
        (pass here (sym (moved_append m f c)) (no_less m f) (after q) refl refl q.knows.still inner
        (state_at around (after q)) (part_ready around (after q) here c o begins inner q.right q.fits q.holds))

pub behind_front : ReaderPromises → (around : Around) (p : Properties) (Is : List Kind → Type 0)
    (allows : List ℕ → Bool) (m : Marker) (front c o : List ℕ) → IsBeforeContent p around.indent front → Begins c
    → (now : FlowMoment) → Fits around now.context m (front ++ c) o → (start : Bool → State)
    → Ready around start now m ((front ++ c) ++ o) → PassesBehind around now m Is allows (moved m (front ++ c)) c o
    → TextPasses around start now (AreFronted p Is) allows m (front ++ c) o
behind_front reads around p Is allows m front c o (inl (none, is)) begins now fits start ready pass =
    subst (λ (f : List ℕ). Fits around now.context m (f ++ c) o → Ready around start now m ((f ++ c) ++ o)
    → PassesBehind around now m Is allows (moved m (f ++ c)) c o
    → TextPasses around start now (AreFronted p Is) allows m (f ++ c) o) (sym is) (λ f z pass.
    let r = pass m refl (not_more m.index) now refl refl refl f start z in
    record {
      tokens = r.tokens;
      are = ([], r.tokens, rw none refl, r.are, refl);
      comment = r.comment;
      none = r.none;
      passes = r.passes;
    }) fits ready pass
behind_front reads around p Is allows m front c o (inr (t, v, h, some, gap, is)) begins now fits start ready pass =
    subst (λ (f : List ℕ). Fits around now.context m (f ++ c) o → Ready around start now m ((f ++ c) ++ o)
    → PassesBehind around now m Is allows (moved m (f ++ c)) c o
    → TextPasses around start now (AreFronted p Is) allows m (f ++ c) o) (sym is)
    (λ f z pass. behind_properties_passes reads around p Is allows m t v c o h some gap begins now f start z pass) fits
    ready pass
