use Rattle.std.proofs.Common.{rules, ℕ, List, refl, subst}
use Rattle.sim_writer.specs.Sound.{IsFileEntry}
use Rattle.sim_writer.proofs.EmptyLemmas.{renewed_sound, cuts_log}
use Rattle.sim_writer.proofs.machine.Machine.cut.Goals as goal

pub returns-clause-done : goal.returns-clause-done
returns-clause-done c _ =
    let m = c.args.self.now in
    let can = c.may_empty.ensures.0 (search rules) in
    let head = c.next_head-head in
    let done = c.in_ok-empty.ensures.ok in
    let f = subst (λ (b : List ℕ). IsFileEntry head.result.size b c.in_ok-entry.entry) c.as_slice.ensures
    c.in_ok-entry.ensures in (
      can,
      cuts_log m c.requires.sound can.mark can.last can.copied can.file head.result c.in_ok-entry.entry f c.new.result _
          c.empty.new.self.chances done.twins done.later head.ensures.fields.is_size head.ensures.sums (λ e. absurd cc)
          can.free c.empty.new.self done.is m.head.salt2 head.ensures refl c.new.ensures refl,
    )

pub returns-clause-sound : goal.returns-clause-sound
returns-clause-sound c =
    let m = c.args.self.now in
    let can = c.may_empty.ensures.0 (search rules) in
    let head = c.next_head-head in
    let done = c.in_ok-empty.ensures.ok in
    let f = subst (λ (b : List ℕ). IsFileEntry head.result.size b c.in_ok-entry.entry) c.as_slice.ensures
    c.in_ok-entry.ensures in
    renewed_sound m c.requires.sound can.mark can.last can.copied can.file head.result c.in_ok-entry.entry f c.new.result
    _ c.empty.new.self.chances done.twins done.later head.ensures.fields.is_size head.ensures.sums (λ e. absurd cc)
    can.free c.empty.new.self done.is

pub returns-in_err-empty-clause-sound : goal.returns-in_err-empty-clause-sound
returns-in_err-empty-clause-sound c = rw (c.in_err-empty.ensures.err) c.requires.sound
