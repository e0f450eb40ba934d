use Rattle.std.proofs.Common.{◌≡◌, List, [], ◌∷◌, ◌++◌, Ok, Vec, Global, refl, ap, ◌∙◌, append-nil}
use Rattle.std.specs.List.{flat_map}
use Rattle.std.proofs.lemmas.Grind.{flat_map-append}
use Rattle.saphyr_parser.specs.Events.{Happening, StreamStart}
use Rattle.saphyr_parser.specs.Nesting.{place_behind_document}
use Rattle.yaml_tree.specs.declared.document.Document.{Document}
use Rattle.yaml_tree.specs.declared.open.Open.{Open}
use Rattle.yaml_tree.specs.declared.open.Open.TheVariants.{Stream}
use Rattle.yaml_tree.specs.OpenSeen.{place_of, GrowsBy}
use Rattle.yaml_tree.specs.Unloading.{document_events}
use Rattle.yaml_tree.proofs.open.Open.with_document.Goals as goal

grows_by_document : (old : Open) (documents more : Vec Document Global) (d : Document) → old ≡ Stream documents
    → more.items ≡ documents.items ++ d ∷ []
    → GrowsBy (Ok (Stream more)) (document_events d) (place_behind_document (place_of old)) old
grows_by_document old documents more d is longer = rw is (
  ap (λ (ds : List Document). StreamStart ∷ flat_map document_events ds) longer
      ∙ ap (λ (hs : List Happening). StreamStart ∷ hs)
      (flat_map-append document_events documents.items (d ∷ [])
      ∙ ap (λ (hs : List Happening). flat_map document_events documents.items ++ hs) (append-nil (document_events d))),
  refl,
)

pub returns-in-Ok : goal.returns-in-Ok
returns-in-Ok c = grows_by_document c.args.self c.in-Stream.documents c.push.new.self c.args.document c.in-Stream.is
    c.in-Ok.ensures.items
