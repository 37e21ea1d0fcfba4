use Rattle.std.proofs.Common.{List, ◌∷◌, [], ◌++◌, sym, ap, subst, ◌∙◌}
use Rattle.ls_base.specs.declared.entry.Entry.{Entry}
use Rattle.sim_writer.specs.Sound.{IsSound}
use Rattle.sim_writer.proofs.FreshLemmas.{fresh_sound, made_is}
use Rattle.sim_writer.proofs.machine.Machine.fresh.Goals as goal

pub returns-clause-is : goal.returns-clause-is
returns-clause-is c =
    let one = c.in_ok-push.ensures.ok ∙ ap (λ (h : List Entry). h ++ c.args.entry ∷ []) c.new-history.ensures in
    made_is c.args.head c.args.file c.args.entry c.push.new.self c.new.result c.new-2.result one c.new.ensures
    c.new-2.ensures

pub returns-clause-sound : goal.returns-clause-sound
returns-clause-sound c =
    let one = c.in_ok-push.ensures.ok ∙ ap (λ (h : List Entry). h ++ c.args.entry ∷ []) c.new-history.ensures in
    subst IsSound
    (sym (made_is c.args.head c.args.file c.args.entry c.push.new.self c.new.result c.new-2.result one c.new.ensures
    c.new-2.ensures))
    (fresh_sound c.args.head c.args.file c.args.entry c.requires.fresh)
