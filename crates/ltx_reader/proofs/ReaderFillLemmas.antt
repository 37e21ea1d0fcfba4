-- A buffer that is filled from a file by several readings.
use Rattle.std.proofs.Common.{◌≡◌, ℕ, ◌+◌, ◌-◌, ◌≤◌, ◌<◌, min, List, ◌++◌, length, take, drop, refl, sym, ap, ◌∙◌}
use Rattle.std.proofs.Common.{append_assoc, arith}
use borrow.Rule.Slice.PartMut.{mid_of, put_mid, post_of}
use Rattle.std.proofs.lemmas.List.{length-take, length-drop, length-append, take-append-drop, take-take, take_at}
use Rattle.std.proofs.lemmas.List.{drop_at, drop-drop, drop-take}
use Rattle.crash_disk.specs.declared.event.Event.{Event}
use Rattle.crash_disk.specs.Files.{IsReadOf}
use Rattle.ltx_reader.specs.Reader.{bytes_named}
use Rattle.ltx_reader.specs.ReaderSteps.{IsFilled}

-- the front of a front
pub take-add : (m n : ℕ) (xs : List ℕ) → take (m + n) xs ≡ take m xs ++ take n (drop m xs)
take-add m n xs =
    let front : take m (take (m + n) xs) ≡ take m xs = take-take m (m + n) xs (omega arith) in
    let behind : drop m (take (m + n) xs) ≡ take n (drop m xs) = drop-take m n xs in
    sym (take-append-drop m (take (m + n) xs)) ∙ rw (front, behind) refl

-- a front that goes into the second of two lists
pub take-behind : (n : ℕ) (xs ys : List ℕ) → take (length xs + n) (xs ++ ys) ≡ xs ++ take n ys
take-behind n xs ys =
    take-add (length xs) n (xs ++ ys)
    ∙ (rw (take_at xs ys (length xs) refl, drop_at xs ys (length xs) refl) refl)

-- a reading goes on where the one before ended
pub filled_more : (bytes xs ys old : List ℕ) (done at n : ℕ) → done ≤ length xs → done ≤ length bytes - at
    → take done xs ≡ take done (drop at bytes) → n ≡ min (length xs - done) (length bytes - (at + done))
    → ys ≡ take n (drop (at + done) bytes) ++ old
    → take (done + n) (put_mid done (length xs - done) xs ys) ≡ take (done + n) (drop at bytes)
filled_more bytes xs ys old done at n within there filled count read =
    let front : length (take done xs) ≡ done = omega (arith, length-take done xs) in
    let piece : length (take n (drop (at + done) bytes)) ≡ n = omega (
      arith,
      length-take n (drop
          (at + done) bytes),
      length-drop (at + done) bytes,
    ) in
    let post = post_of done (length xs - done) xs in
    let new : take n (ys ++ post) ≡ take n (drop (at + done) bytes) =
    ap (λ (zs : List ℕ). take n (zs ++ post)) read
    ∙ ap (take n) (append_assoc (take n (drop (at + done) bytes)) old post)
    ∙ take_at (take n (drop (at + done) bytes)) (old ++ post) n piece in
    let split : take (done + n) (take done xs ++ (ys ++ post)) ≡ take done xs ++ take n (ys ++ post) =
    ap (λ k. take (k + n) (take done xs ++ (ys ++ post))) (sym front) ∙ take-behind n (take done xs) (ys ++ post) in
    split ∙ rw (filled, new) (rw (sym (drop-drop done at bytes)) (sym (take-add done n (drop at bytes))))

-- what is known after one more reading from the disk
pub record FilledMore (bytes xs ys : List ℕ) (done at n : ℕ) : Type 0 where
  pub there : done + n ≤ length bytes - at
  pub within : done + n ≤ length (put_mid done (length xs - done) xs ys)
  pub ends : n ≡ 0 → done < length xs → length bytes - at ≤ done
  pub filled : take (done + n) (put_mid done (length xs - done) xs ys) ≡ take (done + n) (drop at bytes)

pub read_more : (events : List Event) (name xs ys : List ℕ) (done at n : ℕ) → done ≤ length xs
    → done ≤ length (bytes_named events name) - at → take done xs ≡ take done (drop at (bytes_named events name))
    → IsReadOf events name (at + done) (mid_of done (length xs - done) xs) ys n
    → FilledMore (bytes_named events name) xs ys done at n
read_more events name xs ys done at n within there filled read =
    let bytes = bytes_named events name in
    let part : length (mid_of done (length xs - done) xs) ≡ length xs - done = omega (
      arith,
      length-take
          (length xs - done) (drop done xs),
      length-drop done xs,
    ) in
    let count : n ≡ min (length xs - done) (length bytes - (at + done)) = read.count
    ∙ ap (λ k. min k (length bytes - (at + done))) part in
    let old = drop n (mid_of done (length xs - done) xs) in
    let new : length ys ≡ n + length old =
    ap length read.bytes ∙ length-append (take n (drop (at + done) bytes)) old
    ∙ ap (λ k. k + length old) (let piece : length (take n (drop (at + done) bytes)) ≡ n = omega
    (arith, length-take n (drop (at + done) bytes), length-drop (at + done) bytes) in piece) in
    let front : length (take done xs) ≡ done = omega (arith, length-take done xs) in
    record {
      there = omega arith;
      within = omega (
        arith,
        length-append (take done xs) (ys ++ post_of done
            (length xs - done) xs),
        length-append ys (post_of done (length xs - done) xs),
      );
      ends = λ none less. omega arith;
      filled = filled_more bytes xs ys old done at n within there filled count read.bytes;
    }

-- a reading of no bytes ends the file
pub filled_none : (bytes xs ys : List ℕ) (done at n room : ℕ) → n ≡ 0 → done < length xs → length xs ≡ room
    → FilledMore bytes xs ys done at n → IsFilled bytes at room (put_mid done (length xs - done) xs ys) done
filled_none bytes xs ys done at n room none less whole more =
    let there = more.there in
    let ends = more.ends none less in
    let same : done + n ≡ done = omega arith in
    record {
      count = omega (arith, there, ends);
      same = ap (λ k. take k (put_mid done (length xs - done) xs ys)) (sym same) ∙ more.filled
          ∙ ap (λ k. take k (drop at bytes)) same;
    }

pub within_more : (xs ys : List ℕ) (done n : ℕ) → done ≤ length xs → n ≤ length (mid_of done (length xs - done) xs)
    → length ys ≡ length (mid_of done (length xs - done) xs) → done + n ≤ length (put_mid done (length xs - done) xs ys)
within_more xs ys done n within fits same =
    let post = post_of done (length xs - done) xs in
    omega (arith, length-take done xs, length-append (take done xs) (ys ++ post), length-append ys post)
