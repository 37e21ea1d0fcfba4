use Rattle.std.proofs.Common.{refl, ap, ◌∙◌}
use Rattle.std.specs.FinMap.{get}
use Rattle.crash_disk.specs.FileTable.{by_name}
use Rattle.crash_disk.specs.Files.{changed}
use Rattle.crash_disk.proofs.TableLemmas.{by_name-writes, by_name-changes, by_name-absent, insert-IsShort}
use Rattle.crash_disk.proofs.file_table.FileTable.replace.Goals as goal
use Rattle.crash_disk.proofs.file_table.FileTable.replace.Goals.{in-Some, in_default}

pub invariant_of-self : goal.invariant_of-self
invariant_of-self c =
    elim c.match-get_mut.branch [
      | in-Some w ↦
          rw (
            w.self-inside-is,
            by_name-writes c.args.name.now c.self.inside.files
                (c.get_mut.follows.lender c.args.bytes) w.in-Some.file.now c.args.bytes w.in-Some.ensures.value
                (c.get_mut.follows.holds c.args.bytes),
          )
          (insert-IsShort _ c.args.name.now c.args.bytes c.self.invariant c.requires.short)
      | in_default w ↦ rw (w.self-inside-is, c.get_mut.follows.holds-at-none) c.self.invariant
    ]

pub returns : goal.returns
returns c =
    elim c.match-get_mut.branch [
      | in-Some w ↦
          ap (λ i. by_name i.files.entries) w.self-inside-is
          ∙ by_name-changes c.args.name.now c.self.inside.files (c.get_mut.follows.lender c.args.bytes)
          w.in-Some.file.now c.args.bytes (λ _. c.args.bytes) refl w.in-Some.ensures.value
          (c.get_mut.follows.holds c.args.bytes)
          ∙ ap (λ m. changed m c.args.name.now (get m c.args.name.now) (λ _. c.args.bytes)) c.self.view_is
      | in_default w ↦
          ap (λ i. by_name i.files.entries) w.self-inside-is
          ∙ by_name-absent c.args.name.now c.self.inside.files c.get_mut.follows.lender-at-none
          (λ _. c.args.bytes) c.get_mut.result w.in_default.is c.get_mut.ensures.value c.get_mut.follows.holds-at-none
          ∙ ap (λ m. changed m c.args.name.now (get m c.args.name.now) (λ _. c.args.bytes)) c.self.view_is
    ]
