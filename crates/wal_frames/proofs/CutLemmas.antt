-- The whole frames of a log that grows.
use Rattle.std.proofs.Common.{◌≡◌, ◌∙◌, ℕ, ◌+◌, ◌-◌, ◌*◌, ◌/◌, ◌<◌, ◌≤◌, List, [], ◌∷◌, ◌++◌, length, take, drop, sym}
use Rattle.std.proofs.Common.{ap, refl, arith, length-append, length-drop}
use Rattle.std.specs.Simd.{first_chunks}
use Rattle.std.proofs.Math.Nat.{lt-div-mul-add, div-mul-le_self, mul-add-div_right, mul-le-mul_right}
use Rattle.std.proofs.lemmas.Nat.{div-mul-add}
use Rattle.std.proofs.lemmas.List.{drop-append-le, take_all, take_at, drop-drop, drop-take, length-take-le}
use Rattle.wal_frames.specs.declared.header.WalHeader.{WalHeader}
use Rattle.wal_frames.specs.WalFrame.{frame_length}
use Rattle.wal_frames.specs.ValidPrefix.{whole_frames}
use Rattle.wal_frames.proofs.ChunkLemmas.{AreLong, length-first_chunks, are_long, first_chunks-append, first_chunks-add}
use Rattle.wal_frames.proofs.ChunkLemmas.{first_chunks-take}

-- how often n goes into q times n and less than n more
pub quotient : (m n q r : ℕ) → m ≡ q * n + r → r < n → m / n ≡ q
quotient m n q r e less = ap (λ (k : ℕ). k / n) e ∙ div-mul-add q n r less

module _ (h : WalHeader) (log : List ℕ) (long : 32 ≤ length log) where
  F : ℕ
  F = frame_length h

  -- how many frames are whole
  pub many : ℕ
  many = (length log - 32) / frame_length h

  -- what stands behind them
  pub rest : List ℕ
  rest = drop (32 + many * frame_length h) log

  pub rest_is : rest ≡ drop (32 + many * frame_length h) log
  unfolding rest
  rest_is = refl

  pub fits : many * frame_length h ≤ length log - 32
  unfolding many
  fits = div-mul-le_self (length log - 32) (frame_length h)

  below : length log - 32 < many * frame_length h + frame_length h
  unfolding many
  below = lt-div-mul-add {a = length log - 32} {b = frame_length h} (omega arith)

  pub length-rest : length log ≡ 32 + many * frame_length h + length rest
  unfolding rest
  length-rest = omega (arith, fits, length-drop (32 + many * frame_length h) log, long)

  pub rest-short : length rest < frame_length h
  rest-short = omega (arith, below, length-rest)

  pub length-whole_frames : length (whole_frames h log) ≡ many
  unfolding whole_frames many
  length-whole_frames = length-first_chunks (frame_length h) ((length log - 32) / frame_length h) (drop 32 log)

  pub whole_frames-long : AreLong (frame_length h) (whole_frames h log)
  unfolding whole_frames many
  whole_frames-long = are_long (frame_length h) many (drop 32 log) (omega (arith, fits, length-drop 32 log))

  module _ (x : List ℕ) where
    joined : drop 32 (log ++ x) ≡ drop 32 log ++ x
    joined = drop-append-le 32 log x long

    longer : length (log ++ x) - 32 ≡ many * frame_length h + (length rest + length x)
    longer = omega (arith, length-append log x, length-rest)

    pub whole_frames-part : length rest + length x < frame_length h → whole_frames h (log ++ x) ≡ whole_frames h log
    unfolding whole_frames many
    whole_frames-part less =
        let q : (length (log ++ x) - 32) / frame_length h ≡ many = quotient (length (log ++ x) - 32) (frame_length h)
        many (length rest + length x) longer less in
        rw (q, joined) (first_chunks-append (frame_length h) many (drop 32 log) x
        (omega (arith, fits, length-drop 32 log)))

    pub whole_frames-more : length rest + length x ≡ frame_length h
        → whole_frames h (log ++ x) ≡ whole_frames h log ++ (rest ++ x) ∷ []
    unfolding whole_frames many rest
    whole_frames-more whole =
        let n = frame_length h in
        let all = drop 32 log ++ x in
        let q : (length (log ++ x) - 32) / n ≡ many + 1 = quotient (length (log ++ x) - 32) n (many + 1) 0
        (omega (arith, longer, whole)) (omega arith) in
        let first : first_chunks n many all ≡ first_chunks n many (drop 32 log) = first_chunks-append n many
        (drop 32 log) x (omega (arith, fits, length-drop 32 log)) in
        let behind : drop (many * n) all ≡ rest ++ x =
        drop-append-le (many * n) (drop 32 log) x (omega (arith, fits, length-drop 32 log))
        ∙ ap (λ (xs : List ℕ). xs ++ x) (drop-drop (many * n) 32 log) in
        let one : take n (rest ++ x) ≡ rest ++ x = take_all n (rest ++ x) (omega (arith, length-append rest x, whole))
        in
        ap (λ (xs : List ℕ). first_chunks n ((length (log ++ x) - 32) / n) xs) joined
        ∙ ap (λ (k : ℕ). first_chunks n k all) q
        ∙ first_chunks-add n many 1 all
        ∙ ap (λ (xs : List (List ℕ)). xs ++ first_chunks n 1 (drop (many * n) all)) first
        ∙ ap (λ (xs : List ℕ). first_chunks n many (drop 32 log) ++ take n xs ∷ []) behind
        ∙ ap (λ (xs : List ℕ). first_chunks n many (drop 32 log) ++ xs ∷ []) one

    pub whole_frames-grow : (others : List (List ℕ)) × (whole_frames h (log ++ x) ≡ whole_frames h log ++ others)
    unfolding whole_frames many
    whole_frames-grow =
        let n = frame_length h in
        let all = drop 32 log ++ x in
        let k = (length rest + length x) / n in
        let q : (length (log ++ x) - 32) / n ≡ many + k = ap (λ (m : ℕ). m / n) longer
        ∙ mul-add-div_right {m = n} (omega arith) many (length rest + length x) in
        let first : first_chunks n many all ≡ first_chunks n many (drop 32 log) = first_chunks-append n many
        (drop 32 log) x (omega (arith, fits, length-drop 32 log)) in (
          first_chunks n k (drop (many * n) all),
          ap (λ (xs : List ℕ). first_chunks n ((length (log ++ x) - 32) / n) xs) joined
              ∙ ap (λ (m : ℕ). first_chunks n m all) q
              ∙ first_chunks-add n many k all
              ∙ ap (λ (xs : List (List ℕ)). xs ++ first_chunks n k (drop (many * n) all)) first,
        )

  -- cut behind some of its whole frames
  module _ (front behind : List (List ℕ)) (split : whole_frames h log ≡ front ++ behind) where
    pub enough : length front ≤ many
    enough = omega (
      arith,
      length-whole_frames,
      ap (λ (xs : List (List ℕ)). length xs) split,
      length-append front
          behind,
    )

    pub chunks_in_front : first_chunks (frame_length h) (length front) (drop 32 log) ≡ front
    unfolding whole_frames many
    chunks_in_front =
        let n = frame_length h in
        let k = length front in
        let bytes = drop 32 log in
        let all : many ≡ k + (many - k) = omega (arith, enough) in
        let chunks : first_chunks n k bytes ++ first_chunks n (many - k) (drop (k * n) bytes) ≡ front ++ behind =
        sym (first_chunks-add n k (many - k) bytes) ∙ ap (λ (m : ℕ). first_chunks n m bytes) (sym all) ∙ split in
        sym (take_at (first_chunks n k bytes) (first_chunks n (many - k) (drop (k * n) bytes)) k
        (length-first_chunks n k bytes))
        ∙ ap (λ (xs : List (List ℕ)). take k xs) chunks ∙ take_at front behind k refl

    fewer : length front * frame_length h ≤ many * frame_length h
    fewer = mul-le-mul_right (frame_length h) enough

    pub cut_length : length (take (32 + length front * frame_length h) log) ≡ 32 + length front * frame_length h
    cut_length = length-take-le (32 + length front * frame_length h) log (omega (arith, fewer, fits, long))

    pub whole_frames-cut : whole_frames h (take (32 + length front * frame_length h) log) ≡ front
    unfolding whole_frames
    whole_frames-cut =
        let n = frame_length h in
        let k = length front in
        let cut = take (32 + k * n) log in
        let q : (length cut - 32) / n ≡ k = quotient (length cut - 32) n k 0 (omega (arith, cut_length)) (omega arith)
        in
        ap (λ (m : ℕ). first_chunks n m (drop 32 cut)) q
        ∙ ap (λ (xs : List ℕ). first_chunks n k xs) (drop-take 32 (k * n) log)
        ∙ first_chunks-take n k (drop 32 log) (omega (arith, fewer, fits, length-drop 32 log))
        ∙ chunks_in_front
