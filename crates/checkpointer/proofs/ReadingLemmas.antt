-- Pieces of a log, one behind the other.
use Rattle.wal_frames.specs.Scanned.{Scanned, HasTaken}
use Rattle.checkpointer.specs.Reading.{ReadsOn}
use Rattle.std.proofs.Common.{◌≡◌, ◌∙◌, ℕ, ◌+◌, ◌-◌, ◌≤◌, List, [], ◌++◌, Option, Some, None, option_map, unwrap_or}
use Rattle.std.proofs.Common.{length, take, drop, sym, ap, subst, arith, length-drop, append_assoc}
use Rattle.std.proofs.Math.Seq.{take-add}
use Rattle.std.proofs.lemmas.List.{drop-drop, take_rest, take_all, take-append-drop}

pub rest_next : (bytes rest : List ℕ) (t : ℕ) → rest ≡ drop (length bytes - length rest) bytes
    → length rest ≤ length bytes → t ≤ length rest
    → take (length rest - t) (drop t rest) ≡ drop (length bytes - length (take (length rest - t) (drop t rest))) bytes
rest_next bytes rest t is short within =
    let next : take (length rest - t) (drop t rest) ≡ drop t rest = take_rest rest t in
    let len : length bytes - length (drop t rest) ≡ length bytes - length rest + t = omega
    (arith, length-drop t rest, short, within) in
    rw next (ap (drop t) is ∙ drop-drop t (length bytes - length rest) bytes ∙ ap (λ (n : ℕ). drop n bytes) (sym len))

pub length-rest_next : (rest : List ℕ) (t : ℕ) → length (take (length rest - t) (drop t rest)) ≡ length rest - t
length-rest_next rest t = ap (λ (xs : List ℕ). length xs) (take_rest rest t) ∙ length-drop t rest

pub short_next : (bytes rest : List ℕ) (t : ℕ) → length rest ≤ length bytes
    → length (take (length rest - t) (drop t rest)) ≤ length bytes
short_next bytes rest t short = omega (arith, length-rest_next rest t, short)

pub taken_next : (bytes rest : List ℕ) (t now before first : ℕ) → t ≤ length rest → now ≡ before + t
    → before + length rest ≡ first + length bytes
    → now + length (take (length rest - t) (drop t rest)) ≡ first + length bytes
taken_next bytes rest t now before first within is so_far = omega (arith, length-rest_next rest t, within, is, so_far)

pub done_next : (log bytes rest : List ℕ) (t : ℕ) → rest ≡ drop (length bytes - length rest) bytes
    → length rest ≤ length bytes → t ≤ length rest
    → (log ++ take (length bytes - length rest) bytes) ++ take t rest ≡ log ++ take
    (length bytes - length (take (length rest - t) (drop t rest))) bytes
done_next log bytes rest t is short within =
    let k = length bytes - length rest in
    let len : length bytes - length (take (length rest - t) (drop t rest)) ≡ k + t = omega
    (arith, length-rest_next rest t, short, within) in
    append_assoc log (take k bytes) (take t rest)
    ∙ ap (λ (xs : List ℕ). log ++ (take k bytes ++ take t xs)) is
    ∙ ap (λ (xs : List ℕ). log ++ xs) (sym (take-add k t bytes)) ∙ ap (λ (n : ℕ). log ++ take n bytes) (sym len)

-- the first piece, and then the next
pub take_next : (log buffer : List ℕ) (at n : ℕ) → take n buffer ≡ take n (drop at log)
    → take at log ++ take n buffer ≡ take (at + n) log
take_next log buffer at n same = ap (λ (xs : List ℕ). take at log ++ xs) same ∙ sym (take-add at n log)

-- what `size` says is the length of the bytes
pub size_is : (file : Option (List ℕ)) (size : Option ℕ) → size ≡ option_map length file
    → unwrap_or size 0 ≡ length (unwrap_or file [])
size_is None size e = ap (λ (n : Option ℕ). unwrap_or n 0) e
size_is (Some bytes) size e = ap (λ (n : Option ℕ). unwrap_or n 0) e

-- a scan that has read up to the end has taken the whole log
pub read_whole : (log : List ℕ) (from end : ℕ) (old new : Scanned) → ReadsOn log from end old new → end ≡ length log
    → from ≤ length log → HasTaken old (take from log) → HasTaken new log
read_whole log from end old new reads is within started =
    subst (λ (xs : List ℕ). HasTaken new xs) (ap (λ (n : ℕ). take n log) is ∙ take_all (length log) log (omega arith))
    (reads (omega (arith, is, within)) (omega (arith, is)) started)

pub all_done : (log bytes rest : List ℕ) → rest ≡ drop (length bytes - length rest) bytes
    → (log ++ take (length bytes - length rest) bytes) ++ rest ≡ log ++ bytes
all_done log bytes rest is =
    let k = length bytes - length rest in
    append_assoc log (take k bytes) rest ∙ ap (λ (xs : List ℕ). log ++ (take k bytes ++ xs)) is
    ∙ ap (λ (xs : List ℕ). log ++ xs) (take-append-drop k bytes)
