-- The entries of the log's marks.
use Rattle.std.proofs.Common.{◌≡◌, ℕ, zero, suc, ◌+◌, ◌-◌, ◌≤◌, List, [], ◌∷◌, ◌++◌, length, map, Some, None}
use Rattle.std.proofs.Common.{refl, sym, ap, ◌∙◌, length-append, arith}
use Rattle.std.specs.List.{slice_get, last_or}
use Rattle.std.proofs.lemmas.List.{length-map}
use Rattle.std.proofs.lemmas.Option.{slice_get_within, get_or_from_slice_get, same_Some}
use Rattle.ls_base.specs.declared.entry.Entry.{Entry}
use Rattle.ls_base.specs.declared.mark.Mark.{Mark}
use Rattle.ls_base.specs.declared.place.Place.{Place}
use Rattle.wal_frames.specs.Marks.{IsMark, marks_of, last_mark_of, place_of}
use Rattle.live_gate.proofs.CommitLemmas.{are_recorded}
use Rattle.sim_writer.specs.declared.machine.Machine.{Machine}
use Rattle.sim_writer.specs.Sound.{IsSound}
use Rattle.sim_writer.proofs.ListLemmas.{get-behind}
use Rattle.sim_writer.proofs.NumberLemmas.{none_is_past}

-- ---- lists by their places

get-map : {X Y : Type 0} (f : X → Y) (xs : List X) (k : ℕ) (x : X) → slice_get xs k ≡ Some x
    → slice_get (map f xs) k ≡ Some (f x)
get-map f [] zero x found = absurd cc
get-map f [] (suc k) x found = absurd cc
get-map {X} {Y} f (y ∷ xs) zero x found = let same : y ≡ x = cc in ap (λ (z : X). Some (f z)) same
get-map f (y ∷ xs) (suc k) x found = get-map f xs k x found

map-get : {X Y : Type 0} (f : X → Y) (xs : List X) (k : ℕ) (y : Y) → slice_get (map f xs) k ≡ Some y
    → (x : X) × (slice_get xs k ≡ Some x) × (f x ≡ y)
map-get f [] zero y found = absurd cc
map-get f [] (suc k) y found = absurd cc
map-get {X} {Y} f (x ∷ xs) zero y found = let same : f x ≡ y = cc in (x, refl, same)
map-get f (x ∷ xs) (suc k) y found = map-get f xs k y found

pub mark_at : (log : List ℕ) (k : ℕ) (mark : Mark) → slice_get (marks_of log) k ≡ Some mark → IsMark log mark
mark_at log k mark found =
    (k, slice_get_within (marks_of log) k mark found, get_or_from_slice_get (marks_of log) k mark mark found)

last-get : (marks : List Mark) (last : Mark) → last_or None marks ≡ Some last
    → slice_get marks (length marks - 1) ≡ Some last
last-get [] last is = absurd cc
last-get (m ∷ marks) last is =
    let one : length (m ∷ marks) - 1 ≡ length marks = omega arith in
    ap (slice_get (m ∷ marks)) one ∙ by m marks is
  where
    by : (m : Mark) (marks : List Mark) → last_or (Some m) marks ≡ Some last
        → slice_get (m ∷ marks) (length marks) ≡ Some last
    by m [] is = is
    by m (n ∷ marks) is = by n marks is

-- ---- the entry of a mark

module _ (m : Machine) (s : IsSound m) (number : ℕ) (from : 1 ≤ number) where
  pub mark_of_entry : (e : Entry) → slice_get m.history (m.before_log + number) ≡ Some e
      → (mark : Mark) × (slice_get (marks_of m.committed) (number - 1) ≡ Some mark) × (e.place ≡ place_of mark)
  mark_of_entry e found =
      let ends = are_recorded m.history m.committed m.file m.copied s.legal.recorded in
      let places = ends.places in
      let many : length ends.latest ≡ length (marks_of m.committed) = sym
      (length-map ends.latest (λ (x : Entry). x.place)) ∙ ap length places
      ∙ length-map (marks_of m.committed) place_of in
      let parts = ap length ends.split ∙ length-append ends.earlier ends.latest in
      let at : m.before_log + number ≡ length ends.earlier + (number - 1) = omega
      (arith, from, s.numbered, parts, many) in
      let latest : slice_get ends.latest (number - 1) ≡ Some e = sym
      (ap (λ (h : List Entry). slice_get h (m.before_log + number)) ends.split
      ∙ ap (slice_get (ends.earlier ++ ends.latest)) at ∙ get-behind ends.earlier ends.latest (number - 1)) ∙ found in
      let placed : slice_get (map place_of (marks_of m.committed)) (number - 1) ≡ Some e.place = sym
      (ap (λ (ps : List Place). slice_get ps (number - 1)) places)
      ∙ get-map (λ (x : Entry). x.place) ends.latest (number - 1) e latest in
      let mark = map-get place_of (marks_of m.committed) (number - 1) e.place placed in
      (mark.0, mark.1, sym mark.2)

  pub no_entry : (mark : Mark) → slice_get m.history (m.before_log + number) ≡ None
      → slice_get (marks_of m.committed) (number - 1) ≡ Some mark → ⊥
  no_entry mark none found =
      let past = none_is_past m.history (m.before_log + number) none in
      let within = slice_get_within (marks_of m.committed) (number - 1) mark found in
      absurd (omega (arith, from, s.numbered, past, within))

-- the last entry is that of the last mark
pub last_place : (m : Machine) (s : IsSound m) (mark : Mark) (e : Entry) (at : ℕ) → last_mark_of m.committed ≡ Some mark
    → length m.history ≡ at + 1 → slice_get m.history at ≡ Some e → e.place ≡ place_of mark
last_place m s mark e at last many found =
    let number = length (marks_of m.committed) in
    let is = last-get (marks_of m.committed) mark last in
    let within = slice_get_within (marks_of m.committed) (number - 1) mark is in
    let from : 1 ≤ number = omega (arith, within) in
    let place : m.before_log + number ≡ at = omega (arith, many, s.numbered) in
    let own = mark_of_entry m s number from e (ap (slice_get m.history) place ∙ found) in
    own.2 ∙ ap place_of (same_Some own.0 mark (sym own.1 ∙ is))
