-- Pieces of a text, put one behind the other.
use Rattle.std.proofs.Common.{◌≡◌, ℕ, zero, suc, List, [], ◌∷◌, ◌++◌, Option, Some, None, length, take, drop, slice_get}
use Rattle.std.proofs.Common.{refl, sym, ap, ◌∙◌, append_assoc, append-nil, arith}
use Rattle.std.proofs.lemmas.Option.{slice_get_within}
use Rattle.std.proofs.lemmas.List.{take-append-drop}
use Rattle.std.proofs.Math.Seq.{take-append_seam}
use Rattle.crash_disk.specs.Output.{gains_text, GainsFront}
use Rattle.replica_store.specs.declared.dated_names.Dated.{Dated}
use Rattle.replica_listing.specs.Listing.{file_line, file_lines}
use Rattle.replica_listing.specs.Printing.{HasPutUpTo}

-- one text behind another is both
gains_both : (text : Option (List ℕ)) (xs ys : List ℕ) → gains_text (gains_text text xs) ys ≡ gains_text text (xs ++ ys)
gains_both None xs ys = refl
gains_both (Some bytes) xs ys = ap Some (append_assoc bytes xs ys)

-- nothing was put yet
pub none_put : (text : Option (List ℕ)) (bytes : List ℕ) → HasPutUpTo text text bytes bytes
none_put None bytes = record { sent = []; text = refl; split = refl }
none_put (Some had) bytes = record { sent = []; text = ap Some (sym (append-nil had)); split = refl }

-- more of it is put
pub more_put : (a b c : Option (List ℕ)) (whole piece line kept rest : List ℕ)
    → HasPutUpTo a b whole (piece ++ (line ++ rest)) → HasPutUpTo b c (piece ++ line) kept
    → HasPutUpTo a c whole (kept ++ rest)
more_put a b c whole piece line kept rest was now =
    record {
      sent = was.sent ++ now.sent;
      text = now.text ∙ ap (λ t. gains_text t now.sent) was.text ∙ gains_both a was.sent now.sent;
      split = append_assoc was.sent now.sent (kept ++ rest)
          ∙ ap (λ xs. was.sent ++ xs) (sym (append_assoc now.sent kept rest) ∙ ap (λ xs. xs ++ rest) now.split
          ∙ append_assoc piece line rest)
          ∙ was.split;
    }

-- a front of what is left is put
pub front_put : (a b c : Option (List ℕ)) (whole piece rest : List ℕ) → HasPutUpTo a b whole (piece ++ rest)
    → GainsFront b c piece → GainsFront a c whole
front_put a b c whole piece rest was (k, front) =
    let cut : (was.sent ++ take k piece) ++ (drop k piece ++ rest) ≡ whole =
    append_assoc was.sent (take k piece) (drop k piece ++ rest)
    ∙ ap (λ xs. was.sent ++ xs) (sym (append_assoc (take k piece) (drop k piece) rest)
    ∙ ap (λ xs. xs ++ rest) (take-append-drop k piece))
    ∙ was.split in
    let is_front : take (length (was.sent ++ take k piece)) whole ≡ was.sent ++ take k piece =
    ap (take (length (was.sent ++ take k piece))) (sym cut)
    ∙ take-append_seam (was.sent ++ take k piece) (drop k piece ++ rest) in (
      length (was.sent ++ take k piece),
      front ∙ ap (λ t. gains_text t (take k piece)) was.text ∙ gains_both a was.sent (take k piece)
          ∙ ap (gains_text a) (sym is_front),
    )

-- the lines from a place on
pub lines_at : (i next : ℕ) (names : List Dated) (sizes : List ℕ) (dated : Dated) (size : ℕ) → next ≡ suc i
    → slice_get names i ≡ Some dated → slice_get sizes i ≡ Some size
    → file_lines (drop i names) (drop i sizes) ≡ file_line dated size ++ file_lines (drop next names) (drop next sizes)
unfolding file_lines
lines_at i next names sizes dated size is at_name at_size = rw is (go i names sizes at_name at_size)
  where
    go : (i : ℕ) (names : List Dated) (sizes : List ℕ) → slice_get names i ≡ Some dated → slice_get sizes i ≡ Some size
        → file_lines (drop i names) (drop i sizes) ≡ file_line dated size ++ file_lines (drop (suc i) names) (drop
        (suc i) sizes)
    go zero (first ∷ names) (one ∷ sizes) at_name at_size = cc
    go (suc i) (first ∷ names) (one ∷ sizes) at_name at_size = go i names sizes at_name at_size
    go i [] sizes at_name at_size = absurd (omega (arith, slice_get_within {A = Dated} [] i dated at_name))
    go i (first ∷ names) [] at_name at_size = absurd (omega (arith, slice_get_within {A = ℕ} [] i size at_size))

-- the whole is put
pub all_put : (a b c : Option (List ℕ)) (whole piece : List ℕ) → HasPutUpTo a b whole (piece ++ [])
    → c ≡ gains_text b piece → c ≡ gains_text a whole
all_put a b c whole piece was now =
    now ∙ ap (λ t. gains_text t piece) was.text ∙ gains_both a was.sent piece
    ∙ ap (gains_text a) (ap (λ xs. was.sent ++ xs) (sym (append-nil piece)) ∙ was.split)

-- no lines stand behind the last
pub lines_end : (names : List Dated) (sizes : List ℕ) → file_lines (drop (length names) names) sizes ≡ []
unfolding file_lines
lines_end [] sizes = refl
lines_end (first ∷ names) sizes = lines_end names sizes
