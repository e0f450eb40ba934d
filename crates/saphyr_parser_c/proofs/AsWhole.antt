-- A document of a text in pieces is the next one of the whole text.
use Rattle.std.proofs.Common.{◌≡◌, ◌∙◌, ℕ, Bool, true, false, List, [], ◌∷◌, ◌++◌, None, Ok, Err, Some, ap, append-nil, append_assoc, refl, subst, sym}
use Rattle.std.specs.Str.{chars}
use Rattle.std.specs.declared.boxed.Box.{Box}
use Rattle.std.specs.Global.{Global}
use Rattle.saphyr_scalar.specs.declared.scalar.position.Marker.{Marker}
use Rattle.saphyr_parser.specs.Answer.{Answer}
use Rattle.saphyr_parser.specs.Calls.{GivesNext}
use Rattle.saphyr_parser.specs.Cursor.{EventCursor, to_come}
use Rattle.saphyr_pieces.specs.Pieces.{NeedsNoMore, at, wants_more}
use Rattle.yaml_tree.specs.declared.table.NodeTable.{NodeTable}
use Rattle.yaml_tree.specs.declared.tally.Limits.{Limits}
use Rattle.yaml_tree.specs.DocumentLoading.{GoOnBetween}
use Rattle.yaml_tree.specs.Loading.{EndNoDocument}
use Rattle.yaml_tree.specs.Tables.{Event}
use Rattle.yaml_tree.proofs.Leaving.{HasNoMore, Splits}
use Rattle.saphyr_parser.specs.Nesting.{happenings}
use Rattle.saphyr_parser_c.specs.declared.coming.Coming.{Coming}
use Rattle.saphyr_parser_c.specs.declared.coming.Extent.{Extent}
use Rattle.saphyr_parser_c.specs.declared.coming.Extent.TheVariants as extent
use Rattle.saphyr_parser_c.specs.declared.inner.Inner.{Inner}
use Rattle.saphyr_parser_c.specs.declared.shown.CEvent.{CEvent}
use Rattle.saphyr_parser_c.specs.declared.source.Source.{Source}
use Rattle.saphyr_parser_c.specs.declared.source.Source.TheVariants as source
use Rattle.saphyr_parser_c.specs.declared.status.Status.{Status}
use Rattle.saphyr_parser_c.specs.declared.status.Status.TheVariants as status
use Rattle.saphyr_parser_c.specs.Coming.{AddsBytes, AddsSome, EndsPieces, at_bytes, end_of_last}
use Rattle.saphyr_parser_c.specs.Growing.{BeginBetween, ClosesDocument, EndsFrom, EndsNoDocument, Item, LoadsAsWhole, PassesThese, Spot, end_behind, once_came, spot_in, spot_of}
use Rattle.saphyr_parser_c.specs.Inner.{AddsBytesFrom, AddsToC, EndsAtFault, IsAtFrom, IsSameItem, MovesLastEnd, MovesLastEndFrom, ShowsAgain, ShowsFrom, ShowsOfComing, ShowsOfPieces, ShowsToC, WaitsForMore, handed}
use Rattle.saphyr_parser_c.proofs.Handing.{ends_same}
use Rattle.saphyr_parser_c.proofs.NextDocument.{all_both, passes_both}

-- ## Documents

begins_between : (none : Type 0) (es rest : List Event) → (none → GoOnBetween rest) → BeginBetween none es
    → GoOnBetween (es ++ rest)
begins_between none [] rest of_none begins = of_none begins
begins_between none (e ∷ es) rest of_none begins = begins

pub as_whole : (limits : Limits) (es : List Event) (table : NodeTable) (start before after : Spot) → Splits
    → PassesThese es start before → ClosesDocument limits es table before after
    → LoadsAsWhole limits (Some table) start after
as_whole limits es table start before after splits passed ends later c last here =
    let all : List Event = (es ++ ends.took) ++ ends.last ∷ [] in
    let p = subst (λ (l : List Event). PassesThese l start after) (sym (append_assoc es ends.took (ends.last ∷ [])))
    (passes_both es (ends.took ++ ends.last ∷ []) start before after passed ends.passes) later c last here in
    let split = splits all c p.0 p.1 in (
      p.0,
      end_behind all last,
      (
        subst GoOnBetween (sym split.0)
            (begins_between ⊥ all (to_come p.0).events (λ n. absurd n) ends.begins),
        record {
          taken = all;
          inner = es ++ ends.took;
          last = ends.last;
          split = split.0;
          fault = split.1;
          up_to = refl;
          ends = ends.ends;
          inside = ends.inside;
          holds = (ends.within, ends.table);
        },
      ),
      p.2,
    )

pub none_as_whole : (limits : Limits) (es : List Event) (start before after : Spot) → Splits → HasNoMore
    → PassesThese es start before → EndsNoDocument es before after → LoadsAsWhole limits None start after
none_as_whole limits es start before after splits no_more passed ends later c last here =
    let all : List Event = es ++ ends.took in
    let p = all_both es ends.took start before after passed ends.passes later c last here in
    let split = splits all c p.0 p.1 in
    let nothing = no_more p.0 p.2 in
    let events : (to_come c).events ≡ all =
    split.0 ∙ ap (λ (a : Answer). all ++ a.events) nothing ∙ append-nil all in (
      p.0,
      end_behind all last,
      (
        subst GoOnBetween (sym events)
            (subst GoOnBetween (append-nil all) (begins_between (Unit {0}) all [] (λ n. tt) ends.begins)),
        record {
          fault = split.1 ∙ ap (λ (a : Answer). a.fault) nothing;
          nothing = nothing;
          holds = subst (λ (l : List Event). EndNoDocument (happenings l)) (sym events) ends.inside;
        },
      ),
      p.3,
    )

-- ## Bytes that come

IsNotWhole : Status → Type 0
IsNotWhole status.Whole = ⊥
IsNotWhole _ = Unit {0}

not_whole : status.Done ≡ status.Whole → ⊥
unfolding IsNotWhole
not_whole e = subst IsNotWhole e tt

still_ends : (old new : Coming) (b : Bool) (item : Item) (last : Marker) → new.last_end ≡ old.last_end
    → (EndsAtFault item old → EndsAtFault item new) → EndsFrom b old item last → EndsFrom b new item last
still_ends old new false item last same enough ends = same ∙ ends
still_ends old new true item last same enough ends = (same ∙ ends.0, enough ends.1)

still_last : (item : Item) (old new : Coming) → NeedsNoMore old.parser new.parser → EndsAtFault item old
    → EndsAtFault item new
still_last (Some (Ok e)) old new enough ends = tt
still_last (Some (Err f)) old new enough ends = enough ends
still_last None old new enough ends = tt

same_at : (old new : Coming) (b : Bool) (item : Item) (later came : List ℕ) (c : EventCursor)
    → at_bytes new later ≡ at_bytes old came → IsAtFrom b old item came c → IsAtFrom b new item later c
same_at old new false item later came c same is = same ∙ is
same_at old new true item later came c same is = subst (GivesNext item c) (sym same) is

abbrev IsThere : Coming → Bool → Item → Spot
IsThere coming b item later c last = IsAtFrom b coming item later c × EndsFrom b coming item last

some_added : (old new : Coming) (bytes : List ℕ) (b : Bool) (item : Item) (later : List ℕ) (c : EventCursor)
    (last : Marker) → AddsSome bytes old status.Done new → IsThere old b item (bytes ++ later) c last
    → IsThere new b item later c last
some_added old new bytes b item later c last (places, so_far, waits, goes) (is, ends) = (
  same_at old new b item later (bytes ++ later) c (places later) is,
  still_ends old new b item last (ap (λ (k : Coming). k.last_end) goes.0) (still_last item old new goes.1) ends,
)

all_came : (old new : Coming) (b : Bool) (item : Item) (later : List ℕ) (c : EventCursor) (last : Marker)
    → EndsPieces old status.Done new → IsThere old b item [] c last → IsThere new b item later c last
unfolding chars
all_came old new b item later c last (none, places, over, same) (is, ends) = (
  same_at old new b item later [] c (places (chars (new.waiting.items ++ later))
      ∙ sym (ap (λ (bs : List ℕ). at old.parser (chars (bs ++ []))) none)) is,
  still_ends old new b item last (ap (λ (k : Coming). k.last_end) same) (still_last item old new (λ enough. over)) ends,
)

bytes_added : (e : Extent) (old new : Coming) (bytes : List ℕ) (b : Bool) (item : Item) (later : List ℕ)
    (c : EventCursor) (last : Marker) → (bytes ≡ [] → ⊥) → AddsBytes e bytes old status.Done new
    → IsThere old b item (bytes ++ later) c last → IsThere new b item later c last
bytes_added extent.All old new bytes b item later c last some adds here = absurd (not_whole adds.0)
bytes_added extent.Nothing old new [] b item later c last some adds here = absurd (some refl)
bytes_added extent.Nothing old new (x ∷ xs) b item later c last some adds here =
    some_added old new (x ∷ xs) b item later c last adds here
bytes_added extent.Part old new [] b item later c last some adds here = absurd (some refl)
bytes_added extent.Part old new (x ∷ xs) b item later c last some adds here =
    some_added old new (x ∷ xs) b item later c last adds here

end_added : (e : Extent) (old new : Coming) (b : Bool) (item : Item) (later : List ℕ) (c : EventCursor)
    (last : Marker) → AddsBytes e [] old status.Done new → IsThere old b item [] c last
    → IsThere new b item later c last
end_added extent.All old new b item later c last adds here = absurd (not_whole adds.0)
end_added extent.Nothing old new b item later c last adds here = all_came old new b item later c last adds here
end_added extent.Part old new b item later c last adds here = all_came old new b item later c last adds here

as_before : (before after : Inner) (new : Box Coming Global) → after.source ≡ source.Pieces new
    → after ≡ record before { source = after.source } → (later : List ℕ) (c : EventCursor) (last : Marker)
    → IsThere new.value before.shown (handed before) later c last → spot_of after later c last
as_before before after new is same later c last here =
    subst (λ (m : Inner). spot_in m.source m.shown (handed m) later c last) (sym same)
    (subst (λ (x : Source). spot_in x before.shown (handed before) later c last) (sym is) here)

adds_from : (s : Source) (bytes : List ℕ) (before after : Inner) → (bytes ≡ [] → ⊥)
    → AddsBytesFrom s bytes before status.Done after → (later : List ℕ) (c : EventCursor) (last : Marker)
    → spot_in s before.shown (handed before) (bytes ++ later) c last → spot_of after later c last
adds_from (source.Whole x) bytes before after some adds later c last here = absurd here
adds_from (source.Pieces old) bytes before after some (new, is, adds, same) later c last here =
    as_before before after new is same later c last
    (bytes_added old.value.extent old.value new.value bytes before.shown (handed before) later c last some adds here)

ends_from : (s : Source) (before after : Inner) → AddsBytesFrom s [] before status.Done after
    → (later : List ℕ) (c : EventCursor) (last : Marker) → spot_in s before.shown (handed before) [] c last
    → spot_of after later c last
ends_from (source.Whole x) before after adds later c last here = absurd here
ends_from (source.Pieces old) before after (new, is, adds, same) later c last here =
    as_before before after new is same later c last
    (end_added old.value.extent old.value new.value before.shown (handed before) later c last adds here)

pub passes_added : (es : List Event) (came bytes : List ℕ) (start before after : Inner) → (bytes ≡ [] → ⊥)
    → AddsToC bytes before status.Done after → PassesThese es (once_came came false (spot_of start)) (spot_of before)
    → PassesThese es (once_came (came ++ bytes) false (spot_of start)) (spot_of after)
passes_added es came bytes start before after some adds passed later c last here =
    let p = passed (bytes ++ later) c last
    (subst (λ (bs : List ℕ). spot_of start bs c last) (append_assoc came bytes later) here) in
    (p.0, p.1, adds_from before.source bytes before after some adds later p.0 (end_behind es last) p.2)

pub passes_ended : (es : List Event) (came : List ℕ) (start before after : Inner) → AddsToC [] before status.Done after
    → PassesThese es (once_came came false (spot_of start)) (spot_of before)
    → PassesThese es (once_came came true (spot_of start)) (spot_of after)
passes_ended es came start before after ends passed later c last here =
    let p = passed [] c last (subst (λ (bs : List ℕ). spot_of start bs c last) (sym (append-nil came)) here) in
    (p.0, p.1, ends_from before.source before after ends later p.0 (end_behind es last) p.2)

-- ## What is shown

fault_same : (x y : Item) (old new : Coming) → IsSameItem x y → new ≡ old → EndsAtFault x old → EndsAtFault y new
fault_same None y old new same is enough = subst (λ (z : Item). EndsAtFault z new) (sym same) tt
fault_same (Some (Ok e)) y old new (f, same, alike) is enough = subst (λ (z : Item). EndsAtFault z new) (sym same) tt
fault_same (Some (Err f)) y old new (g, same, alike) is enough =
    subst (λ (z : Item). EndsAtFault z new) (sym same)
    (subst (λ (k : Coming). wants_more k.parser ≡ false) (sym is) enough)

shown_end : (b : Bool) (old new : Coming) (before after : Inner) → before.shown ≡ b → ShowsAgain old before new after
    → (before.shown ≡ false → EndsAtFault (handed after) new) → MovesLastEndFrom b old new after → (last : Marker)
    → EndsFrom b old (handed before) last → EndsFrom true new (handed after) last
shown_end false old new before after was again ended moves last ends =
    (moves ∙ ap (λ (m : Marker). end_of_last (handed after) m) ends, ended was)
shown_end true old new before after was again ended moves last (ends, enough) =
    let a = again was in (
      moves ∙ ends ∙ sym (ends_same (handed before) (handed after) last a.0),
      fault_same (handed before) (handed after) old new a.0 a.1 enough,
    )

shows_at : (old new : Coming) (before after : Inner) (s : Status) (c : CEvent) → ShowsOfPieces old before s c new after
    → MovesLastEnd old before new after → (later : List ℕ) (k : EventCursor) (last : Marker)
    → IsThere old before.shown (handed before) later k last → IsThere new after.shown (handed after) later k last
shows_at old new before after s c shows moves later k last (is, ends) = (
  shows.place later k is,
  subst (λ (b : Bool). EndsFrom b new (handed after) last) (sym shows.shown)
      (shown_end before.shown old new before after refl shows.again shows.ended moves last ends),
)

waits_at : (old new : Coming) (before after : Inner) (s : Status) (c : CEvent) → WaitsForMore old before s c new after
    → MovesLastEnd old before new after → (later : List ℕ) (k : EventCursor) (last : Marker)
    → IsThere old before.shown (handed before) later k last → IsThere new after.shown (handed after) later k last
waits_at old new before after s c waits moves later k last (is, ends) = (
  waits.place later k is,
  subst (λ (b : Bool). EndsFrom b new (handed after) last) (sym waits.event.1)
      (subst (λ (b : Bool). MovesLastEndFrom b old new after) waits.not_shown moves
      ∙ ap (λ (z : Item). end_of_last z old.last_end) waits.event.0
      ∙ subst (λ (b : Bool). EndsFrom b old (handed before) last) waits.not_shown ends),
)

comes_to_show : (s : Status) (old new : Coming) (before after : Inner) (c : CEvent)
    → ShowsOfComing s c old before new after → MovesLastEnd old before new after
    → (later : List ℕ) (k : EventCursor) (last : Marker) → IsThere old before.shown (handed before) later k last
    → IsThere new after.shown (handed after) later k last
comes_to_show status.More old new before after c shows moves later k last here =
    waits_at old new before after status.More c shows moves later k last here
comes_to_show status.TooMuch old new before after c shows moves later k last here =
    waits_at old new before after status.TooMuch c shows moves later k last here
comes_to_show _ old new before after c shows moves later k last here =
    shows_at old new before after _ c shows moves later k last here

shows_from : (x : Source) (before after : Inner) (s : Status) (c : CEvent) → ShowsFrom x before s c after
    → (later : List ℕ) (k : EventCursor) (last : Marker) → spot_in x before.shown (handed before) later k last
    → spot_of after later k last
shows_from (source.Whole x) before after s c shows later k last here = absurd here
shows_from (source.Pieces old) before after s c (new, is, kept, moves, shows) later k last here =
    subst (λ (y : Source). spot_in y after.shown (handed after) later k last) (sym is)
    (comes_to_show s old.value new.value before after c shows moves later k last here)

pub passes_shown : (before after : Inner) (s : Status) (c : CEvent) → ShowsToC before s c after
    → PassesThese [] (spot_of before) (spot_of after)
passes_shown before after s c (shows, trees) later k last here =
    (k, refl, shows_from before.source before after s c shows later k last here)
