use Rattle.std.proofs.Common.{rules, ◌≡◌, ℕ, ◌++◌, List, sym, ap, subst, ◌∙◌, arith, option_copied, append-nil}
use Rattle.std.specs.List.{concat}
use Rattle.std.specs.FinMap.{keys}
use Rattle.std.proofs.lemmas.Option.{slice_get_within}
use Rattle.wal_frames.specs.WalFrame.{frame_front, frame_bytes, sums_after}
use Rattle.sim_writer.specs.CommitFrames.{AreChecked, commit_frames, commit_sums}
use Rattle.sim_writer.proofs.NumberLemmas.{place_below, number_has_page, past_all}
use Rattle.sim_writer.proofs.FrameLemmas.{frame_step}
use Rattle.sim_writer.proofs.frames.put_frames.Goals as goal

pub unreachable-requires : goal.unreachable-requires
unreachable-requires c = number_has_page c.args.pages.now c.loop-number.at c.in-Some.number
    (sym c.number_at.ensures ∙ c.in-Some.is) (sym c.get.ensures ∙ ap (λ o. option_copied o) c.in_default-get.is)

pub loop-number-preserved : goal.loop-number-preserved
loop-number-preserved c =
    let h = c.args.head.now in
    let m = c.args.pages.now in
    let at = c.loop-number.at in
    let has = sym c.get.ensures ∙ ap (λ o. option_copied o) c.in-Some-get.is in
    let found = sym c.number_at.ensures ∙ c.in-Some.is in
    let page = c.in-Some-get.page.now in
    let bytes = c.bytes.ensures in
    let is = c.requires.commit.each c.in-Some.number page has in
    let now_is = c.write_frame-sums.ensures.value ∙ ap
    (λ (b : List ℕ). sums_after h.order c.loop-number.sums (frame_front c.in-Some.number c.size_at-commit.result ++ b))
    bytes in
    let frame_is = c.write_frame-sums.ensures.bytes ∙ ap
    (λ (b : List ℕ). frame_bytes h c.write_frame-sums.result c.in-Some.number c.size_at-commit.result b) bytes in
    let some : c.in-Some.number ≡ 0 → ⊥ = λ zeros. absurd (omega (arith, is.from, zeros)) in
    let valid = c.write_frame-sums.ensures.valid some in
    let step = frame_step h c.loop-number.sums c.write_frame-sums.result m c.args.size at c.in-Some.number
    c.size_at-commit.result page c.write_frame-sums.new.into found has c.size_at-commit.ensures now_is frame_is valid in
    record {
      room = search rules;
      bytes = step.bytes c.loop-number.into c.extend.new.self (search rules) ∙ c.loop-number.invariant.bytes;
      after = step.after ∙ c.loop-number.invariant.after;
      checked = λ rest. c.loop-number.invariant.checked (step.checked rest);
    }

pub returns-clause-bytes : goal.returns-clause-bytes
returns-clause-bytes c =
    let none = past_all (keys c.args.pages.now) c.loop-number.at (sym c.number_at.ensures ∙ c.in_default.is) in
    sym (append-nil c.loop-number.into)
    ∙ ap (λ (ns : List ℕ). c.loop-number.into
    ++ concat (commit_frames c.args.head.now c.loop-number.sums c.args.pages.now c.args.size ns)) (sym none)
    ∙ c.loop-number.invariant.bytes

pub returns-clause-checked : goal.returns-clause-checked
returns-clause-checked c =
    let none = past_all (keys c.args.pages.now) c.loop-number.at (sym c.number_at.ensures ∙ c.in_default.is) in
    c.loop-number.invariant.checked
    (subst (λ (ns : List ℕ). AreChecked c.args.head.now c.loop-number.sums c.args.pages.now c.args.size ns) (sym
    none) tt)

pub returns-clause-sums : goal.returns-clause-sums
returns-clause-sums c =
    let none = past_all (keys c.args.pages.now) c.loop-number.at (sym c.number_at.ensures ∙ c.in_default.is) in
    ap (λ (ns : List ℕ). commit_sums c.args.head.now c.loop-number.sums c.args.pages.now c.args.size ns) (sym none)
    ∙ c.loop-number.invariant.after

pub size_at-commit-requires : goal.size_at-commit-requires
size_at-commit-requires c =
    let m = c.args.pages.now in
    let is = c.requires.commit.each c.in-Some.number c.in-Some-get.page.now
    (sym c.get.ensures ∙ ap (λ o. option_copied o) c.in-Some-get.is) in
    omega (
      arith,
      place_below m c.loop-number.at c.in-Some.number (sym c.number_at.ensures ∙ c.in-Some.is),
      is.upto,
      c.ranges.size.fits,
    )

pub overflow_add-at : goal.overflow_add-at
overflow_add-at c =
    let m = c.args.pages.now in
    let is = c.requires.commit.each c.in-Some.number c.in-Some-get.page.now
    (sym c.get.ensures ∙ ap (λ o. option_copied o) c.in-Some-get.is) in
    omega (
      arith,
      place_below m c.loop-number.at c.in-Some.number (sym c.number_at.ensures ∙ c.in-Some.is),
      is.upto,
      c.ranges.size.fits,
    )

pub loop-number-smaller : goal.loop-number-smaller
loop-number-smaller c = omega (
  arith,
  slice_get_within (keys c.args.pages.now) c.loop-number.at c.in-Some.number (sym c.number_at.ensures ∙ c.in-Some.is),
)
