-- What was read of a log, and what of it is committed.
use Rattle.std.proofs.Common.{◌≡◌, ℕ, ◌+◌, ◌-◌, ◌<◌, ◌≤◌, List, [], ◌++◌, length, take, drop, Result, Ok}
use Rattle.std.proofs.Common.{Err}
use Rattle.std.proofs.Common.{refl, sym, ap, ◌∙◌, append_assoc, length-append, arith}
use Rattle.std.specs.Prelude.{min, IfOk}
use Rattle.std.proofs.lemmas.List.{take-append-drop, take_all, drop_all, drop_at, drop-drop, length-take, length-drop}
use Rattle.std.proofs.lemmas.List.{take_min, drop-append-le, take-append-le}
use Rattle.std.proofs.Math.Seq.{take-append_seam}
use Rattle.live_gate.specs.LiveRecord.{IsPrefix}
use Rattle.sim_writer.specs.declared.machine.Machine.{Machine}
use Rattle.sim_writer.specs.Passing.{IsCommittedToMark}
use Rattle.sim_writer.specs.Reading.{ReadsLog}
use Rattle.sim_writer.specs.Sound.{log_of, tail_of}

pub if_ok_map : {T E : Type 0} (r : Result T E) (P Q : T → Type 0) → ((t : T) → P t → Q t) → IfOk r P → IfOk r Q
if_ok_map (Ok t) P Q each holds = each t holds
if_ok_map (Err e) P Q each holds = tt

pub front_is_prefix : (front bytes : List ℕ) → take (length front) bytes ≡ front → IsPrefix front bytes
front_is_prefix front bytes is = record {
  rest = drop (length front) bytes;
  is = sym (take-append-drop (length front) bytes) ∙ ap (λ (xs : List ℕ). xs ++ drop (length front) bytes) is;
}

-- what goes on as the committed part does is committed
pub read_prefix : (committed : List ℕ) (aimed : ℕ) (answered : List ℕ) → IsPrefix answered (drop aimed committed)
    → IsCommittedToMark committed (take aimed committed ++ answered)
read_prefix committed aimed answered p mark last =
    let f = take aimed committed ++ answered in
    let whole : committed ≡ f ++ p.rest = sym (take-append-drop aimed committed)
    ∙ ap (λ (xs : List ℕ). take aimed committed ++ xs) p.is
    ∙ sym (append_assoc (take aimed committed) answered p.rest) in
    record {
      rest = drop mark.end f ++ p.rest;
      is = whole ∙ ap (λ (xs : List ℕ). xs ++ p.rest) (sym (take-append-drop mark.end f))
          ∙ append_assoc (take mark.end f) (drop mark.end f) p.rest;
    }

-- ---- bytes of the log

module _ (rest into behind : List ℕ) (room n : ℕ) (count : n ≡ min (length rest) room)
    (front : into ≡ take room rest ++ behind) where
  got_length : n ≡ length (take room rest)
  got_length = omega (arith, count, length-take room rest)

  got_room : take n into ≡ take room rest
  got_room = ap (take n) front ∙ ap (λ k. take k (take room rest ++ behind)) got_length
      ∙ take-append_seam (take room rest) behind

  pub got_is : take n into ≡ take n rest
  got_is = got_room ∙ sym (take_min room rest) ∙ ap (λ k. take k rest) (sym (count ∙ omega arith))

  pub got_long : length (take n into) ≡ n
  got_long = ap length got_room ∙ sym got_length

pub reads_tail : (m : Machine) (at room n : ℕ) (into behind : List ℕ) → length m.committed ≤ at
    → n ≡ min (length (drop (at - length m.committed) (tail_of m))) room
    → into ≡ take room (drop (at - length m.committed) (tail_of m)) ++ behind → ReadsLog m at room n into
reads_tail m at room n into behind past count front =
    let size = length m.committed in
    let rest = drop (at - size) (tail_of m) in
    let place : size + (at - size) ≡ at = omega (arith, past) in
    let is : rest ≡ drop at (log_of m) =
    ap (drop (at - size)) (sym (drop_at m.committed (tail_of m) size refl))
    ∙ drop-drop (at - size) size (log_of m) ∙ ap (λ (k : ℕ). drop k (log_of m)) place in
    let got = take n into in
    let none : drop at m.committed ≡ [] = drop_all at m.committed past in
    record {
      bytes = got_is rest into behind room n count front ∙ ap (take n) is;
      long = got_long rest into behind room n count front;
      some = λ some within. omega (
        arith,
        some,
        within,
        count,
        past,
        length-drop (at - size) (tail_of m),
        length-append m.committed (tail_of m),
      );
      agrees = ap (take (length got)) none ∙ take_all (length got) [] (omega arith)
          ∙ sym (ap (λ (xs : List ℕ). take (length xs) got) none);
    }

pub reads_committed : (m : Machine) (at room n : ℕ) (into behind : List ℕ) → at < length m.committed
    → n ≡ min (length (drop at m.committed)) room
    → into ≡ take room (drop at m.committed) ++ behind → ReadsLog m at room n into
reads_committed m at room n into behind within count front =
    let rest = drop at m.committed in
    let got = take n into in
    let few : n ≤ length rest = omega (arith, count) in
    let bytes = got_is rest into behind room n count front in
    let long = got_long rest into behind room n count front in
    let whole : drop at (log_of m) ≡ rest ++ tail_of m = drop-append-le at m.committed (tail_of m) (omega (
      arith,
      within,
    )) in
    record {
      bytes = bytes ∙ sym (ap (take n) whole ∙ take-append-le n rest (tail_of m) few);
      long = long;
      some = λ some inside. omega (arith, some, within, count, length-drop at m.committed);
      agrees =
          ap (λ (k : ℕ). take k rest) long ∙ sym bytes
          ∙ sym (take_all (length rest) got (omega (arith, long, few)));
    }
