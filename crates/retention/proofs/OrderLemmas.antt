-- Files that are dropped in the order of their names.
use Rattle.std.proofs.Common.{◌≡◌, ℕ, ◌+◌, ◌<◌, ◌≤◌, inl, inr, List, [], ◌∷◌, ◌++◌, length, get_or, take, drop}
use Rattle.std.proofs.Common.{Option, Some, slice_get, sym, ap, ◌∙◌, subst, arith}
use Rattle.std.specs.Prelude.{Result, Ok, Err, OnOk, OnErr}
use Rattle.std.specs.List.{Contains}
use Rattle.std.specs.Option.{option_map}
use Rattle.std.proofs.lemmas.List.{length-map, take_all, take-append-drop}
use Rattle.std.proofs.lemmas.List.Elements.{Contains-append_left, Contains-push, Contains-push_cases}
use Rattle.std.proofs.lemmas.Option.{slice_get-map}
use Rattle.crash_disk.specs.declared.event.Event.{Event}
use Rattle.crash_disk.specs.Files.{file_at}
use Rattle.crash_disk.specs.GoesOn.{GoesOn, IsGrown}
use Rattle.crash_disk.specs.Told.{Told}
use Rattle.crash_disk.proofs.GoesOnLemmas.{goes_on-then_grown, goes_on-weaker}
use Rattle.crash_disk.proofs.Moments.{since_now}
use Rattle.crash_disk.proofs.NumberLaws.{by_names}
use Rattle.replica_store.specs.declared.file_name.FileName.{FileName}
use Rattle.replica_store.specs.Dropping.{MayDropAll}
use Rattle.replica_store.specs.Listing.{path_of, paths_of}
use Rattle.replica_store.specs.Putting.{IsAbsent, HasDropped, MayDrop, HasSyncedNames}
use Rattle.replica_store.proofs.CrashLemmas.{since_split, grown_longer}
use Rattle.replica_store.proofs.DropCarryLemmas.{one_more_dropped, no_new_image}
use Rattle.replica_store.proofs.ListLemmas.{take_next}
use Rattle.retention.specs.Pruning.{HasDroppedTo, IsDroppedInOrder, HasPruned}
use Rattle.retention.proofs.ListLemmas.{at_index, contains_at, contained_at}

pub path_there : (names : List FileName) (i : ℕ) (name : FileName) → slice_get names i ≡ Some name
    → slice_get (paths_of names) i ≡ Some (path_of name)
path_there names i name there = slice_get-map path_of names i ∙ ap (λ (o : Option FileName). option_map path_of o) there

path_among : (names : List FileName) (name : FileName) → Contains names name → Contains (paths_of names) (path_of name)
path_among names name there =
    let a = contained_at names name there in
    contains_at (paths_of names) a.0 (path_of name) (path_there names a.0 name a.1)

-- more paths may be dropped
more_paths : (few more : List (List ℕ)) → ((q : List ℕ) → Contains few q → Contains more q)
    → (before now : List Event) → MayDropAll few before now → MayDropAll more before now
more_paths few more into before now may = record {
  later = may.later;
  files = λ q. elim (may.files q) [ inl same ↦ inl same | inr gone ↦ inr (into q gone.0, gone.1) ];
  at_a_stop = λ image was q. elim (may.at_a_stop image was q) [
    | inl stands ↦ inl stands
    | inr gone ↦ inr (into q gone.0, gone.1)
  ];
}

-- what is gone stays so where a file is dropped
stays_gone : (path : List ℕ) (mid now : List Event) → MayDrop path mid now
    → (q : List ℕ) → IsAbsent mid q → IsAbsent now q
stays_gone path mid now one q gone = by_names q path
    (λ same. elim one.file [
      | inl kept ↦ ap (file_at now) same ∙ kept ∙ sym (ap (file_at mid) same) ∙ gone
      | inr absent ↦ ap (file_at now) same ∙ absent
    ])
    (λ apart. one.others q apart ∙ gone)

-- ---- the file of one name more

module _ (names : List FileName) (i : ℕ) (name : FileName) (before mid now : List Event) (grown : IsGrown mid now)
    (at : slice_get names i ≡ Some name) (was : HasDroppedTo names i before mid) where
  next : take (i + 1) (paths_of names) ≡ take i (paths_of names) ++ path_of name ∷ []
  next = take_next (paths_of names) i (path_of name) (path_there names i name at)

  behind : MayDrop (path_of name) mid now → MayDropAll (take (i + 1) (paths_of names)) before now
  behind one =
      let path = path_of name in
      let first = take i (paths_of names) in
      let paths = take (i + 1) (paths_of names) in
      let last : Contains paths path = subst (λ ps. Contains ps path) (sym next) (Contains-push first path) in
      let among : (q : List ℕ) → Contains first q → Contains paths q
      = λ q there. subst (λ ps. Contains ps q) (sym next) (Contains-append_left first (path ∷ []) q there) in
      one_more_dropped paths path before mid now grown last (more_paths first paths among before mid was.others) one

  dropped_or_not : MayDrop (path_of name) mid now → IsDroppedInOrder names before now
  dropped_or_not one = record {
    count = i;
    gone = λ q there. stays_gone (path_of name) mid now one q (was.gone q there);
    behind = behind one;
  }

  dropped_more : HasDropped (path_of name) mid now → HasDroppedTo names (i + 1) before now
  dropped_more one = record {
    gone = λ q there.
        let now_there = subst (λ ps. Contains ps q) next there in
        elim (Contains-push_cases (take i (paths_of names)) (path_of name) q now_there) [
          | inl early ↦ stays_gone (path_of name) mid now one.may q (was.gone q early)
          | inr same ↦ ap (file_at now) (sym same) ∙ one.file
        ];
    others = behind one.may;
  }

-- the same of a told disk, where the name was read at its place
pub told_or_not : (t u v : Told) (names : List FileName) (i : ℕ) (name : FileName) → i < length names
    → name ≡ get_or names i name
    → GoesOn t u (HasDroppedTo names i) → GoesOn u v (MayDrop (path_of name)) → GoesOn t v (IsDroppedInOrder names)
told_or_not t u v names i name low is so_far one =
    goes_on-then_grown t u v (HasDroppedTo names i) (MayDrop (path_of name)) (IsDroppedInOrder names) so_far one
    (λ x y z before after was drops. dropped_or_not names i name x y z after (at_index names i name low is) was drops)

pub told_more : (t u v : Told) (names : List FileName) (i : ℕ) (name : FileName) → i < length names
    → name ≡ get_or names i name → GoesOn t u (HasDroppedTo names i) → GoesOn u v (HasDropped (path_of name))
    → GoesOn t v (HasDroppedTo names (i + 1))
told_more t u v names i name low is so_far one =
    goes_on-then_grown t u v (HasDroppedTo names i) (HasDropped (path_of name)) (HasDroppedTo names (i + 1)) so_far one
    (λ x y z before after was drops. dropped_more names i name x y z after (at_index names i name low is) was drops)

-- ---- the files of all names

module _ (names : List FileName) (i : ℕ) (before now : List Event) (end : length names ≤ i)
    (was : HasDroppedTo names i before now) where
  all : take i (paths_of names) ≡ paths_of names
  all = take_all i (paths_of names) (omega (arith, end, length-map names path_of))

  further : take (i + 1) (paths_of names) ≡ paths_of names
  further = take_all (i + 1) (paths_of names) (omega (arith, end, length-map names path_of))

  all_in_order : IsDroppedInOrder names before now
  all_in_order = record {
    count = i;
    gone = was.gone;
    behind = subst (λ ps. MayDropAll ps before now) (all ∙ sym further) was.others;
  }

  all_gone : (name : FileName) → Contains names name → IsAbsent now (path_of name)
  all_gone name there =
      was.gone (path_of name) (subst (λ ps. Contains ps (path_of name)) (sym all) (path_among names name there))

  all_others : MayDropAll (paths_of names) before now
  all_others = subst (λ ps. MayDropAll ps before now) all was.others

-- whatever was dropped in order was one of the names
among_all : (names : List FileName) (before now : List Event) → IsDroppedInOrder names before now
    → MayDropAll (paths_of names) before now
among_all names before now order =
    let paths = paths_of names in
    let few = take (order.count + 1) paths in
    let rest = drop (order.count + 1) paths in
    let whole : few ++ rest ≡ paths = take-append-drop (order.count + 1) paths in
    let among : (q : List ℕ) → Contains few q → Contains paths q
    = λ q there. subst (λ ps. Contains ps q) whole (Contains-append_left few rest q there) in
    more_paths few paths among before now order.behind

pub told_among : (t u : Told) (names : List FileName) → GoesOn t u (IsDroppedInOrder names)
    → GoesOn t u (MayDropAll (paths_of names))
told_among t u names order =
    goes_on-weaker t u (IsDroppedInOrder names) (MayDropAll (paths_of names)) order (λ x y is. among_all names x y is)

-- ---- the names are brought to the disk

synced_may : (paths : List (List ℕ)) (before mid now : List Event) → IsGrown mid now → MayDropAll paths before mid
    → HasSyncedNames mid now → MayDropAll paths before now
synced_may paths before mid now grown all synced = record {
  later = omega (arith, all.later, grown_longer mid now grown);
  files = λ q. elim (all.files q) [
    | inl same ↦ inl (synced.files q ∙ same)
    | inr gone ↦ inr (gone.0, synced.files q ∙ gone.1)
  ];
  at_a_stop = λ image was q. elim (since_split mid now (length before) image grown was) [
    | inl after ↦
        let was_image = no_new_image mid now image synced after in
        all.at_a_stop image (since_now mid (length before) image all.later was_image) q
    | inr earlier ↦ all.at_a_stop image earlier q
  ];
}

pruned : (names : List FileName) (i : ℕ) (before mid now : List Event) → IsGrown mid now → length names ≤ i
    → HasDroppedTo names i before mid → HasSyncedNames mid now → HasPruned names before now
pruned names i before mid now grown end was synced = record {
  gone = λ name there. synced.files (path_of name) ∙ all_gone names i before mid end was name there;
  others = synced_may (paths_of names) before mid now grown (all_others names i before mid end was) synced;
  synced = λ some. synced.names;
}

synced_in_order : (names : List FileName) (before mid now : List Event) → IsGrown mid now
    → IsDroppedInOrder names before mid → HasSyncedNames mid now → IsDroppedInOrder names before now
synced_in_order names before mid now grown was synced = record {
  count = was.count;
  gone = λ q there. synced.files q ∙ was.gone q there;
  behind = synced_may (take (was.count + 1) (paths_of names)) before mid now grown was.behind synced;
}

-- ---- by the answer of a call

either_way : {T E : Type 0} (r : Result T E) (A B C : Type 0) → OnOk r A → OnErr r B → (A → C) → (B → C) → C
either_way (Ok x) A B C a b f h = f a
either_way (Err e) A B C a b f h = h b

on_ok : {T E : Type 0} (r : Result T E) (A C : Type 0) → OnOk r A → (A → C) → OnOk r C
on_ok (Ok x) A C a f = f a
on_ok (Err e) A C a f = tt

pub told_synced : {T E : Type 0} (r : Result T E) (t u v : Told) (names : List FileName) (i : ℕ) → length names ≤ i
    → GoesOn t u (HasDroppedTo names i) → OnOk r (GoesOn u v HasSyncedNames) → OnOk r (GoesOn t v (HasPruned names))
told_synced r t u v names i end so_far ok =
    on_ok r (GoesOn u v HasSyncedNames) (GoesOn t v (HasPruned names)) ok
    (λ synced. goes_on-then_grown t u v (HasDroppedTo names i) HasSyncedNames (HasPruned names) so_far synced
    (λ x y z before after was is. pruned names i x y z after end was is))

pub told_in_order : {T E : Type 0} (r : Result T E) (t u v : Told) (names : List FileName) (i : ℕ) → length names ≤ i
    → GoesOn t u (HasDroppedTo names i) → OnOk r (GoesOn u v HasSyncedNames) → OnErr r (v ≡ u)
    → GoesOn t v (IsDroppedInOrder names)
told_in_order r t u v names i end was ok err =
    let InOrder = IsDroppedInOrder names in
    let so_far : GoesOn t u InOrder
    = goes_on-weaker t u (HasDroppedTo names i) InOrder was (λ x y dropped. all_in_order names i x y end dropped) in
    either_way r (GoesOn u v HasSyncedNames) (v ≡ u) (GoesOn t v InOrder) ok err
    (λ synced. goes_on-then_grown t u v InOrder HasSyncedNames InOrder so_far synced
    (λ x y z before after order is. synced_in_order names x y z after order is))
    (λ same. subst (λ w. GoesOn t w InOrder) (sym same) so_far)
