-- Where a log begins, and what it has up to an offset.
use Rattle.std.proofs.Common.{◌≡◌, ◌∙◌, ℕ, ◌-◌, ◌<◌, ◌≤◌, min, Bool, true, false, not, List, [], ◌++◌, length, take}
use Rattle.std.proofs.Common.{drop, Option, Some, None, Ok, Err, sym, ap, subst, refl, arith, append-nil}
use Rattle.std.specs.Option.{is_some}
use Rattle.std.specs.List.{Contains}
use Rattle.std.proofs.lemmas.List.{drop_all, length-take, take-append-drop}
use Rattle.ls_base.specs.declared.mark.Mark.{Mark}
use Rattle.wal_frames.specs.declared.fault.WalHeaderFault.{WalHeaderFault}
use Rattle.wal_frames.specs.WalFormat.{read_header}
use Rattle.wal_frames.specs.Marks.{marks_of, IsMark, last_mark_of}
use Rattle.wal_frames.specs.Scanned.{Scanned, HasTaken}
use Rattle.checkpointer.specs.Reading.{IsNewer}
use Rattle.checkpointer.proofs.RestartLemmas.{is_last, none_last}
use Rattle.wal_frames.proofs.AcceptedLemmas.{accepts, read_header-append}
use Rattle.wal_frames.proofs.LogLemmas.{accepted_by_mark, cut_keeps, ends_within, last_is_greatest, last_is_mark}
use Rattle.wal_frames.proofs.ViewLemmas.{mark_long}

-- a log that is shorter than a header has no mark
pub short_has_none : (log : List ℕ) (mark : Mark) → length log < 32 → IsMark log mark → ⊥
short_has_none log mark short is_mark =
    let accepted = accepted_by_mark log mark is_mark in
    let long = (accepts log accepted.0 accepted.1).long in
    omega (arith, long, short)

-- nor has one whose header is refused
pub refused_has_none : (log : List ℕ) (fault : WalHeaderFault) (mark : Mark) → 32 ≤ length log
    → read_header (take 32 log) ≡ Err fault → IsMark log mark → ⊥
refused_has_none log fault mark long refused is_mark =
    let accepted = accepted_by_mark log mark is_mark in
    let front : read_header log ≡ read_header (take 32 log) =
    ap read_header (sym (take-append-drop 32 log)) ∙ read_header-append (take 32 log) (drop 32 log)
    (omega (arith, long, length-take 32 log)) in
    let both : Err fault ≡ Ok accepted.0 = sym refused ∙ sym front ∙ accepted.1 in
    absurd cc

-- the front that was read is that of the log
pub front_is : (log old new : List ℕ) (n : ℕ) → length old ≡ 32 → n ≡ min (length old) (length log - 0)
    → new ≡ take n (drop 0 log) ++ drop n old → 32 ≤ n → (32 ≤ length log) × (new ≡ take 32 log)
front_is log old new n len count is enough =
    let all : n ≡ 32 = omega (arith, len, count, enough) in
    let none : drop n old ≡ [] = drop_all n old (omega (arith, len, all)) in (
      omega (arith, len, count, all),
      is ∙ ap (λ (xs : List ℕ). take n (drop 0 log) ++ xs) none
          ∙ append-nil (take n (drop 0 log)) ∙ ap (λ (k : ℕ). take k log) all,
    )

-- a mark ends behind the header
pub ends_long : (log : List ℕ) (mark : Mark) → IsMark log mark → 32 ≤ mark.end
ends_long log mark is_mark =
    let accepted = accepted_by_mark log mark is_mark in
    let long = mark_long log accepted.0 accepted.1 mark is_mark in
    omega (arith, long, length-take mark.end log)

-- the mark is the last one exactly where none is behind it
module _ (log : List ℕ) (mark : Mark) (from : ℕ) (scan : Scanned) (is_mark : IsMark log mark) (end : mark.end ≡ from)
    (within : from ≤ length log) (taken : HasTaken scan (take from log)) where
  pub last_by : (newer : Option Mark) (none : Bool) → is_some newer ≡ not none → IsNewer log from scan newer
      → (none ≡ true → last_mark_of log ≡ Some mark) × (last_mark_of log ≡ Some mark → none ≡ true)
  last_by None true e is = (
    λ same. is_last log mark is_mark (last_mark_of log) refl
        (λ last found. let upto = is within taken last found in omega (arith, upto, end)),
    λ found. refl,
  )
  last_by None false e is = absurd cc
  last_by (Some newer) true e is = absurd cc
  last_by (Some newer) false e is = (
    λ same. absurd cc,
    λ found.
        let past = is within taken in
        let both : ◌≡◌ {A = Option Mark} (Some mark) (Some newer) = sym found ∙ past.0 in
        let same : mark ≡ newer = cc in
        absurd (omega (arith, past.1, end, ap (λ (m : Mark). m.end) same)),
  )

-- no commit ends at an offset before which the log has none, or another last one
module _ (log : List ℕ) (upto : ℕ) (within : upto ≤ length log) (mark : Mark) (is_mark : IsMark log mark)
    (end : mark.end ≡ upto) where
  in_front : IsMark (take upto log) mark
  in_front = cut_keeps log upto mark is_mark (omega (arith, end))

  pub has_a_last : last_mark_of (take upto log) ≡ None → ⊥
  has_a_last none =
      let among : Contains [] mark = subst (λ (ms : List Mark). Contains ms mark)
      (none_last (marks_of (take upto log)) None none).0 in_front in
      omega (arith, among.1)

  pub last_ends : (last : Mark) → last_mark_of (take upto log) ≡ Some last → last.end ≡ upto
  last_ends last is =
      let least = last_is_greatest (take upto log) mark last in_front is in
      let most = ends_within (take upto log) last (last_is_mark (take upto log) last is) in
      omega (arith, least, most, end, length-take upto log)
