-- The laws of the reader of places.
use Rattle.std.proofs.Common.{◌≡◌, ℕ, zero, suc, ◌+◌, ◌-◌, ◌*◌, ◌/◌, ◌%◌, ◌^◌, ◌≤◌, true, cond, eqb, leb, ◌&&◌, List}
use Rattle.std.proofs.Common.{◌++◌, Ok, Err, refl, subst, ◌∙◌, arith, inl, inr}
use Rattle.std.specs.Prelude.{replicate}
use Rattle.std.specs.Int.{w32, w64, to_be_bytes}
use Rattle.std.proofs.Math.Nat.{div-add-mod, mul-mod_left, mul-zero, mul_comm}
use Rattle.std.proofs.lemmas.Bool.{cases_Bool, and_parts, and_from, eqb-true, eq-eqb, leb-true, le-leb}
use Rattle.ls_base.specs.declared.place.Place.{Place}
use Rattle.ls_base.specs.declared.place.Place.TheVariants.{Wal, Rest}
use Rattle.ltx_format.specs.declared.fault.LtxFault.TheVariants.{BadReserved}
use Rattle.ltx_format.specs.LtxFormat.{log_fields, sum_fields, IsPlaceFor}
use Rattle.ltx_format.specs.FirstFault.{are_frames}
use Rattle.ltx_format.specs.Reading.{number_at, behind, wal_at, rest_at, place_at}
use Rattle.ltx_format.proofs.StepLemmas.{bind_then, where_true-ok, err_is_not_ok}
use Rattle.ltx_format.proofs.FieldLaws.{AreBytes, BeginsWith, numbers32, numbers64, number-read, number-again}
use Rattle.ltx_format.proofs.FieldLaws.{behind-read, behind-again}

-- the fields of a place, with the node between them
abbrev pub place_fields : Place → List ℕ
place_fields place = log_fields place ++ replicate 8 0 ++ sum_fields place

-- ---- in the log

some_quotient : (d q : ℕ) → 1 ≤ d → d ≤ d * q → 1 ≤ q
some_quotient d zero positive le = let none = mul-zero d in omega arith
some_quotient d (suc q) positive le = omega arith

frames-true : (size bytes : ℕ) → are_frames size bytes ≡ true → (frames : ℕ) × (1 ≤ frames)
    × (32 + bytes ≡ 32 + frames * (24 + size)) × (32 + bytes ≤ 2 ^ 32)
frames-true size bytes e =
    let a = and_parts (eqb (bytes % (24 + size)) 0 && leb (24 + size) bytes) (leb (32 + bytes) (2 ^ 32)) e in
    let b = and_parts (eqb (bytes % (24 + size)) 0) (leb (24 + size) bytes) a.0 in
    let whole : bytes % (24 + size) ≡ 0 = eqb-true _ _ b.0 in
    let some : 24 + size ≤ bytes = leb-true _ _ b.1 in
    let frames = bytes / (24 + size) in
    let parts : (24 + size) * frames ≡ bytes = omega (arith, div-add-mod bytes (24 + size)) in
    let turned : (24 + size) * frames ≡ frames * (24 + size) = mul_comm (24 + size) frames in (
      frames,
      some_quotient (24 + size) frames (omega arith) (omega arith),
      omega (arith, parts, turned),
      leb-true _ _ a.1,
    )

at_least_one : (d frames : ℕ) → 1 ≤ frames → d ≤ frames * d
at_least_one d zero some = absurd (omega arith)
at_least_one d (suc frames) some = omega arith

true-frames : (size frames : ℕ) → 1 ≤ frames → 32 + frames * (24 + size) ≤ 2 ^ 32
    → are_frames size (frames * (24 + size)) ≡ true
true-frames size frames some fits =
    and_from _ _ (and_from _ _ (eq-eqb _ _ (mul-mod_left frames (24 + size)))
    (le-leb _ _ (at_least_one (24 + size) frames some))) (le-leb _ _ fits)

wal_made : (size : ℕ) (bytes : List ℕ) (log salt1 salt2 : ℕ × List ℕ) (rest : List ℕ) (s0 s1 : ℕ × List ℕ)
    → AreBytes bytes
    → number_at w64 bytes ≡ Ok log → number_at w32 log.1 ≡ Ok salt1 → number_at w32 salt1.1 ≡ Ok salt2
    → behind w64 0 BadReserved salt2.1 ≡ Ok rest → number_at w32 rest ≡ Ok s0 → number_at w32 s0.1 ≡ Ok s1
    → are_frames size log.0 ≡ true
    → BeginsWith (to_be_bytes w64 32 ++ bytes) (place_fields (Wal salt1.0 salt2.0 (32 + log.0) s0.0 s1.0)) s1.1
    × IsPlaceFor size (Wal salt1.0 salt2.0 (32 + log.0) s0.0 s1.0)
wal_made size bytes log salt1 salt2 rest s0 s1 small log_is salt1_is salt2_is rest_is s0_is s1_is are =
    let a = number-read numbers64 bytes log small log_is in
    let b = number-read numbers32 log.1 salt1 a.0.small salt1_is in
    let c = number-read numbers32 salt1.1 salt2 b.0.small salt2_is in
    let d = behind-read numbers64 0 BadReserved salt2.1 rest c.0.small rest_is in
    let f = number-read numbers32 rest s0 d.small s0_is in
    let g = number-read numbers32 s0.1 s1 f.0.small s1_is in
    let frames = frames-true size log.0 are in
    let length_is : 32 + log.0 - 32 ≡ log.0 = omega arith in (
      record {
        whole = rw (length_is, a.0.whole, b.0.whole, c.0.whole, d.whole, f.0.whole, g.0.whole) refl;
        small =
            g.0.small;
      },
      (frames.0, frames.1, frames.2, frames.3, b.1, c.1, f.1, g.1),
    )

wal-read : (size : ℕ) (bytes : List ℕ) (x : Place × List ℕ) → AreBytes bytes → wal_at size bytes ≡ Ok x
    → BeginsWith (to_be_bytes w64 32 ++ bytes) (place_fields x.0) x.1 × IsPlaceFor size x.0
unfolding wal_at
wal-read size bytes x small e =
    bind_then (number_at w64 bytes) _ x e (λ log log_is e.
    bind_then (number_at w32 log.1) _ x e (λ salt1 salt1_is e.
    bind_then (number_at w32 salt1.1) _ x e (λ salt2 salt2_is e.
    bind_then (behind w64 0 BadReserved salt2.1) _ x e (λ rest rest_is e.
    bind_then (number_at w32 rest) _ x e (λ s0 s0_is e.
    bind_then (number_at w32 s0.1) _ x e (λ s1 s1_is e.
    let frames = where_true-ok (are_frames size log.0) BadReserved
    (Wal salt1.0 salt2.0 (32 + log.0) s0.0 s1.0, s1.1) x e in
    subst (λ (y : Place × List ℕ). BeginsWith (to_be_bytes w64 32 ++ bytes) (place_fields y.0) y.1
    × IsPlaceFor size y.0) frames.1
    (wal_made size bytes log salt1 salt2 rest s0 s1 small log_is salt1_is salt2_is rest_is s0_is s1_is frames.0)))))))

wal-again : (size salt1 salt2 end s0 s1 : ℕ) (rest : List ℕ) → IsPlaceFor size (Wal salt1 salt2 end s0 s1)
    → wal_at size (to_be_bytes w64 (end - 32) ++ to_be_bytes w32 salt1 ++ to_be_bytes w32 salt2 ++ replicate 8 0
    ++ to_be_bytes w32 s0 ++ to_be_bytes w32 s1 ++ rest) ≡ Ok (Wal salt1 salt2 end s0 s1, rest)
unfolding wal_at
wal-again size salt1 salt2 end s0 s1 rest is =
    let end_is = is.2 in
    let fits = is.3 in
    let log : end - 32 ≡ is.0 * (24 + size) = omega arith in
    let back : 32 + (end - 32) ≡ end = omega arith in
    let are : are_frames size (end - 32) ≡ true = rw log (true-frames size is.0 is.1 (omega arith)) in
    let at_s1 = to_be_bytes w32 s1 ++ rest in
    let at_s0 = to_be_bytes w32 s0 ++ at_s1 in
    let at_node = to_be_bytes w64 0 ++ at_s0 in
    let at_salt2 = to_be_bytes w32 salt2 ++ at_node in
    let at_salt1 = to_be_bytes w32 salt1 ++ at_salt2 in
    rw (
      number-again numbers64 (end - 32) at_salt1 (omega arith),
      number-again numbers32 salt1 at_salt2 is.4,
      number-again numbers32 salt2 at_node is.5,
      behind-again numbers64 0 BadReserved at_s0 (omega arith),
      number-again numbers32 s0 at_s1 is.6,
      number-again numbers32 s1 rest is.7,
      are,
      back,
    ) refl

-- ---- at rest

rest-read : (size : ℕ) (bytes : List ℕ) (x : Place × List ℕ) → AreBytes bytes → rest_at bytes ≡ Ok x
    → BeginsWith (to_be_bytes w64 0 ++ bytes) (place_fields x.0) x.1 × IsPlaceFor size x.0
unfolding rest_at
rest-read size bytes x small e =
    bind_then (behind w64 0 BadReserved bytes) _ x e (λ salts salts_is e.
    bind_then (behind w64 0 BadReserved salts) _ x e (λ node node_is e.
    bind_then (behind w64 0 BadReserved node) _ x e (λ rest rest_is e.
    bind_then (number_at w64 rest) _ x e (λ sum sum_is e.
    let top = where_true-ok (leb (2 ^ 63) sum.0) BadReserved (Rest sum.0, sum.1) x e in
    let a = behind-read numbers64 0 BadReserved bytes salts small salts_is in
    let b = behind-read numbers64 0 BadReserved salts node a.small node_is in
    let c = behind-read numbers64 0 BadReserved node rest b.small rest_is in
    let d = number-read numbers64 rest sum c.small sum_is in
    subst (λ (y : Place × List ℕ). BeginsWith (to_be_bytes w64 0 ++ bytes) (place_fields y.0) y.1 × IsPlaceFor size y.0)
    top.1 (
      record { whole = rw (a.whole, b.whole, c.whole, d.0.whole) refl; small = d.0.small },
      (leb-true _ _ top.0, d.1),
    )))))

rest-again : (size sum : ℕ) (rest : List ℕ) → IsPlaceFor size (Rest sum)
    → rest_at (replicate 16 0 ++ replicate 8 0 ++ to_be_bytes w64 sum ++ rest) ≡ Ok (Rest sum, rest)
unfolding rest_at
rest-again size sum rest is =
    let at_sum = to_be_bytes w64 sum ++ rest in
    let at_node = to_be_bytes w64 0 ++ at_sum in
    let at_salts = to_be_bytes w64 0 ++ at_node in
    rw (
      behind-again numbers64 0 BadReserved at_salts (omega arith),
      behind-again numbers64 0 BadReserved at_node (omega arith),
      behind-again numbers64 0 BadReserved at_sum (omega arith),
      number-again numbers64 sum rest is.1,
      le-leb _ _ is.0,
    ) refl

-- ---- either

place_made : (size : ℕ) (bytes : List ℕ) (offset : ℕ × List ℕ) (x : Place × List ℕ) → AreBytes bytes
    → number_at w64 bytes ≡ Ok offset
    → cond (eqb offset.0 32) (wal_at size offset.1) (cond (eqb offset.0 0) (rest_at offset.1) (Err BadReserved)) ≡ Ok x
    → BeginsWith bytes (place_fields x.0) x.1 × IsPlaceFor size x.0
place_made size bytes offset x small offset_is e =
    let a = number-read numbers64 bytes offset small offset_is in
    elim (cases_Bool (eqb offset.0 32)) [
      | inl wal ↦
          let first : bytes ≡ to_be_bytes w64 32 ++ offset.1 =
          subst (λ (n : ℕ). bytes ≡ to_be_bytes w64 n ++ offset.1) (eqb-true _ _ wal) a.0.whole in
          let read = wal-read size offset.1 x a.0.small (rw wal at e) in
          (record { whole = first ∙ read.0.whole; small = read.0.small }, read.1)
      | inr no_wal ↦
          let left : cond (eqb offset.0 0) (rest_at offset.1) (Err BadReserved) ≡ Ok x = rw no_wal at e in
          elim (cases_Bool (eqb offset.0 0)) [
            | inl at_rest ↦
                let first : bytes ≡ to_be_bytes w64 0 ++ offset.1 =
                subst (λ (n : ℕ). bytes ≡ to_be_bytes w64 n ++ offset.1) (eqb-true _ _ at_rest) a.0.whole in
                let read = rest-read size offset.1 x a.0.small (rw at_rest at left) in
                (record { whole = first ∙ read.0.whole; small = read.0.small }, read.1)
            | inr neither ↦ absurd (err_is_not_ok BadReserved x (rw neither at left))
          ]
    ]

pub place-read : (size : ℕ) (bytes : List ℕ) (x : Place × List ℕ) → AreBytes bytes → place_at size bytes ≡ Ok x
    → BeginsWith bytes (place_fields x.0) x.1 × IsPlaceFor size x.0
unfolding place_at
place-read size bytes x small e = bind_then (number_at w64 bytes) _ x e
    (λ offset offset_is e. place_made size bytes offset x small offset_is e)

pub place-again : (size : ℕ) (place : Place) (rest : List ℕ) → IsPlaceFor size place
    → place_at size (place_fields place ++ rest) ≡ Ok (place, rest)
unfolding place_at
place-again size (Wal salt1 salt2 end s0 s1) rest is =
    rw (number-again numbers64 32 (to_be_bytes w64 (end - 32) ++ to_be_bytes w32 salt1 ++ to_be_bytes w32 salt2
    ++ replicate 8 0 ++ to_be_bytes w32 s0 ++ to_be_bytes w32 s1 ++ rest) (omega arith))
    (wal-again size salt1 salt2 end s0 s1 rest is)
place-again size (Rest sum) rest is =
    rw (number-again numbers64 0 (replicate 16 0 ++ replicate 8 0 ++ to_be_bytes w64 sum ++ rest) (omega arith))
    (rest-again size sum rest is)
