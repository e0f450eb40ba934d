-- What a verdict tells, and where a text deviates.
use Rattle.std.proofs.Common.{◌≡◌, ℕ, ◌+◌, ◌-◌, ◌≤◌, List, [], ◌∷◌, ◌++◌, length, subst, arith}
use Rattle.std.specs.Prelude.{All}
use Rattle.std.proofs.lemmas.List.{length-append}
use Rattle.std.proofs.lemmas.List.Elements.{All-get_or, All-push, All-weaker}
use Rattle.std.proofs.lemmas.List.Sorted.{IsNonDecreasingBy-push}
use Rattle.saphyr_input.specs.Breaks.{normalized}
use Rattle.saphyr_scalar.specs.declared.scalar.position.Marker.{Marker}
use Rattle.saphyr_scanner.specs.Limits.{most_open}
use Rattle.saphyr_scanner.specs.TokensTaken.{IsPlaceOf}
use Rattle.yaml_laws.specs.Grammar.BlockNodes.{IsBlockNode}
use Rattle.yaml_laws.specs.Grammar.Yaml.{IsStream}
use Rattle.yaml_standard.specs.declared.verdict.Deviation.{Deviation}
use Rattle.yaml_standard.specs.Documents.{IsSomeStream}
use Rattle.yaml_standard.specs.Places.{IsHere}
use Rattle.yaml_standard.specs.Strict.{IsStrict}
use Rattle.yaml_standard.specs.Verdicts.{AreDeviations, IsStandard}
use Rattle.yaml_standard.proofs.Places.{place_here}

-- the text is judged with its breaks made line feeds
pub text_standard : (text lines : List ℕ) → lines ≡ normalized text → IsSomeStream lines → IsStrict text
    → IsStandard text
text_standard text lines e stream strict =
    ((stream.0, subst (λ t. IsStream (IsBlockNode most_open) stream.0 t) e stream.1), strict)

-- ## Deviations

abbrev pub AreUpTo : ℕ → List Deviation → Type 0
AreUpTo n found = All (λ (d : Deviation). d.place.index ≤ n) found

-- one more, which is not before them
pub one_more : (text : List ℕ) (i : ℕ) (found new : List Deviation) (d : Deviation) (m : Marker) (u : List ℕ)
    → new ≡ found ++ (d ∷ []) → AreDeviations text i found → AreUpTo m.index found → m.index ≤ d.place.index
    → IsHere text d.place u → AreDeviations text (i + 1) new × AreUpTo d.place.index new
one_more text i found new d m u is are before later here =
    let Earlier : Deviation → Type 0 = λ e. e.place.index ≤ d.place.index in
    let all = All-weaker (λ (e : Deviation). e.place.index ≤ m.index) Earlier (λ e l. omega (arith, l, later)) found
    before in
    let few = are.few in
    rw is (
      record {
        few = omega (arith, few, length-append found (d ∷ []));
        places = All-push (λ (e : Deviation). IsPlaceOf text e.place) found d are.places
            (place_here text u d.place here);
        rise = IsNonDecreasingBy-push (λ (e : Deviation). e.place.index) found d are.rise
            (λ e some. All-get_or Earlier found (length found - 1) e (omega (arith, some)) all);
      },
      All-push Earlier found d all (omega arith),
    )
