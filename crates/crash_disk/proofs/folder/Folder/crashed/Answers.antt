use Rattle.std.proofs.Common.{◌≡◌, ap, subst, ◌∙◌, reverse}
use Rattle.crash_disk.specs.Crashed.{AreLeft}
use Rattle.crash_disk.proofs.CrashedLemmas.{all_left}
use Rattle.crash_disk.proofs.folder.Folder.crashed.Goals as goal

pub returns-clause-files : goal.returns-clause-files
returns-clause-files c =
    let seen : reverse c.deref.result.now ≡ c.args.self.now = ap reverse c.deref.ensures.value ∙ c.self.view_is in
    all_left c.args.choice c.args.self.now c.in_ok-left.left
    (subst (λ events. AreLeft c.args.choice events events c.in_ok-left.left) seen c.in_ok-left.ensures)
