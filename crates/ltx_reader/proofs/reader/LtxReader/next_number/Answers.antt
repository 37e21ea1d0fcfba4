use Rattle.std.proofs.Common.{◌≡◌, ◌++◌, ℕ, List, ◌∙◌, arith, sym, ap, subst}
use Rattle.ls_sums.specs.Crc64.{IsBehind}
use Rattle.ltx_format.specs.FirstFault.{end_fault}
use Rattle.ltx_reader.specs.Reader.{Reader, bytes_named, AreBytes, next_block, block_offset}
use Rattle.ltx_reader.proofs.ReaderGivenLemmas.{gives_then, gives_here, gives_within}
use Rattle.ltx_reader.proofs.ReaderTestLemmas.{passes_on}
use Rattle.ltx_reader.proofs.ReaderNextLemmas.{front_here, front_number, front_inside, summed_front, next_end}
use Rattle.ltx_reader.proofs.ReaderNextLemmas.{next_wrong, next_right}
use Rattle.ltx_reader.proofs.reader.LtxReader.next_number.Goals as goal

pub returns-in_err-front-clause-gave : goal.returns-in_err-front-clause-gave
returns-in_err-front-clause-gave g c = λ events told has is.
    let offset : c.block_offset.result ≡ next_block c.args.self.now = c.block_offset.ensures.value
    ∙ ap (λ (r : Reader). block_offset c.args.self.now.header r.count) c.self.view_is in
    gives_within _ _ _ _ (gives_here events c.path.result.now c.args.self.now.name 6 c.block_offset.result _ _
    c.path.ensures (c.in_err-front.ensures.gave events told)) (omega (arith, offset))

pub returns-in_err-check_end-clause-value : goal.returns-in_err-check_end-clause-value
returns-in_err-check_end-clause-value g c = λ events told has is.
    let bytes = bytes_named events c.args.self.now.name in
    let offset : c.block_offset.result ≡ next_block c.args.self.now = c.block_offset.ensures.value
    ∙ ap (λ (r : Reader). block_offset c.args.self.now.header r.count) c.self.view_is in
    let front = front_here events c.path.result.now c.args.self.now.name c.block_offset.result
    (next_block c.args.self.now) c.in_ok-front.front c.path.ensures offset
    (c.in_ok-front.ensures.value events told) in
    let goes = subst (λ (r : Reader). (before : List ℕ) → IsBehind before r.sum
    → IsBehind (before ++ c.in_ok-front.front) c.over.new.self) c.self.view_is c.over.ensures.behind in
    let summed = summed_front bytes c.args.self.now c.in_ok-front.front c.over.new.self c.requires.going is front.0
    front.1 goes in
    passes_on {T = Unit {0}} (λ _. AreBytes bytes) _ (end_fault bytes c.args.self.now.count
    (next_block c.args.self.now)) _ c.from_residual-in_err-check_end.result c.in_err-check_end.field-0.0
    c.from_residual-in_err-check_end.ensures.1
    (c.in_err-check_end.ensures.value events (c.in_ok-front.ensures.unchanged ∙ told) has summed)
    (λ fault found. next_end bytes c.args.self.now has
    (next_block c.args.self.now) c.from_be_bytes-number.result front.0 (front_number bytes
    (next_block c.args.self.now) c.in_ok-front.front front.1
    ∙ sym c.from_be_bytes-number.ensures) c.if-number-eq0.true ∙ found)

pub returns-in_err-check_end-clause-gave : goal.returns-in_err-check_end-clause-gave
returns-in_err-check_end-clause-gave g c = λ events told has is.
    let bytes = bytes_named events c.args.self.now.name in
    let offset : c.block_offset.result ≡ next_block c.args.self.now = c.block_offset.ensures.value
    ∙ ap (λ (r : Reader). block_offset c.args.self.now.header r.count) c.self.view_is in
    let front = front_here events c.path.result.now c.args.self.now.name c.block_offset.result
    (next_block c.args.self.now) c.in_ok-front.front c.path.ensures offset
    (c.in_ok-front.ensures.value events told) in
    let goes = subst (λ (r : Reader). (before : List ℕ) → IsBehind before r.sum
    → IsBehind (before ++ c.in_ok-front.front) c.over.new.self) c.self.view_is c.over.ensures.behind in
    let summed = summed_front bytes c.args.self.now c.in_ok-front.front c.over.new.self c.requires.going is front.0
    front.1 goes in
    gives_then 6 _ _ _ _ _ c.in_ok-front.ensures.gave_room (c.in_err-check_end.ensures.gave events
    (c.in_ok-front.ensures.unchanged ∙ told) has summed) (let inside = front_inside bytes
    (next_block c.args.self.now) front.0 in omega (arith, inside))

pub returns-then-number-eq0-clause-value : goal.returns-then-number-eq0-clause-value
returns-then-number-eq0-clause-value g c = λ events told has is.
    let bytes = bytes_named events c.args.self.now.name in
    let offset : c.block_offset.result ≡ next_block c.args.self.now = c.block_offset.ensures.value
    ∙ ap (λ (r : Reader). block_offset c.args.self.now.header r.count) c.self.view_is in
    let front = front_here events c.path.result.now c.args.self.now.name c.block_offset.result
    (next_block c.args.self.now) c.in_ok-front.front c.path.ensures offset
    (c.in_ok-front.ensures.value events told) in
    let goes = subst (λ (r : Reader). (before : List ℕ) → IsBehind before r.sum
    → IsBehind (before ++ c.in_ok-front.front) c.over.new.self) c.self.view_is c.over.ensures.behind in
    let summed = summed_front bytes c.args.self.now c.in_ok-front.front c.over.new.self c.requires.going is front.0
    front.1 goes in
    let number = front_number bytes (next_block c.args.self.now) c.in_ok-front.front front.1
    ∙ sym c.from_be_bytes-number.ensures in
    let end = c.in_ok-check_end.ensures.value events (c.in_ok-front.ensures.unchanged ∙ told) has summed in (
      next_end bytes c.args.self.now has (next_block c.args.self.now) c.from_be_bytes-number.result front.0 number
          c.if-number-eq0.true ∙ end.0,
      record { is = number ∙ c.if-number-eq0.true; summed = summed; ended = λ _. end.1 },
    )

pub returns-then-number-eq0-clause-gave : goal.returns-then-number-eq0-clause-gave
returns-then-number-eq0-clause-gave g c = λ events told has is.
    let bytes = bytes_named events c.args.self.now.name in
    let offset : c.block_offset.result ≡ next_block c.args.self.now = c.block_offset.ensures.value
    ∙ ap (λ (r : Reader). block_offset c.args.self.now.header r.count) c.self.view_is in
    let front = front_here events c.path.result.now c.args.self.now.name c.block_offset.result
    (next_block c.args.self.now) c.in_ok-front.front c.path.ensures offset
    (c.in_ok-front.ensures.value events told) in
    let goes = subst (λ (r : Reader). (before : List ℕ) → IsBehind before r.sum
    → IsBehind (before ++ c.in_ok-front.front) c.over.new.self) c.self.view_is c.over.ensures.behind in
    let summed = summed_front bytes c.args.self.now c.in_ok-front.front c.over.new.self c.requires.going is front.0
    front.1 goes in
    gives_then 6 _ _ _ _ _ c.in_ok-front.ensures.gave_room (c.in_ok-check_end.ensures.gave events
    (c.in_ok-front.ensures.unchanged ∙ told) has summed) (let inside = front_inside bytes
    (next_block c.args.self.now) front.0 in omega (arith, inside))

pub returns-then-not-is_next-clause-value : goal.returns-then-not-is_next-clause-value
returns-then-not-is_next-clause-value g c = λ events told has is.
    let bytes = bytes_named events c.args.self.now.name in
    let offset : c.block_offset.result ≡ next_block c.args.self.now = c.block_offset.ensures.value
    ∙ ap (λ (r : Reader). block_offset c.args.self.now.header r.count) c.self.view_is in
    let front = front_here events c.path.result.now c.args.self.now.name c.block_offset.result
    (next_block c.args.self.now) c.in_ok-front.front c.path.ensures offset
    (c.in_ok-front.ensures.value events told) in
    let number = front_number bytes (next_block c.args.self.now) c.in_ok-front.front front.1
    ∙ sym c.from_be_bytes-number.ensures in
    next_wrong bytes c.args.self.now has (next_block c.args.self.now) c.from_be_bytes-number.result front.0 number
    c.if-number-eq0.false (sym c.is_next.ensures ∙ c.if-not-is_next.true)

pub returns-clause-value : goal.returns-clause-value
returns-clause-value g c = λ events told has is.
    let bytes = bytes_named events c.args.self.now.name in
    let offset : c.block_offset.result ≡ next_block c.args.self.now = c.block_offset.ensures.value
    ∙ ap (λ (r : Reader). block_offset c.args.self.now.header r.count) c.self.view_is in
    let front = front_here events c.path.result.now c.args.self.now.name c.block_offset.result
    (next_block c.args.self.now) c.in_ok-front.front c.path.ensures offset
    (c.in_ok-front.ensures.value events told) in
    let goes = subst (λ (r : Reader). (before : List ℕ) → IsBehind before r.sum
    → IsBehind (before ++ c.in_ok-front.front) c.over.new.self) c.self.view_is c.over.ensures.behind in
    let summed = summed_front bytes c.args.self.now c.in_ok-front.front c.over.new.self c.requires.going is front.0
    front.1 goes in
    let number = front_number bytes (next_block c.args.self.now) c.in_ok-front.front front.1
    ∙ sym c.from_be_bytes-number.ensures in (
      next_right bytes c.args.self.now has (next_block c.args.self.now) c.from_be_bytes-number.result front.0 number
          c.if-number-eq0.false (sym c.is_next.ensures ∙ c.if-not-is_next.false),
      record { is = number; summed = summed; ended = λ zero. absurd (c.if-number-eq0.false zero) },
    )
