use Rattle.std.proofs.Common.{sym, ap, ◌∙◌}
use Rattle.replica_store.proofs.ListLemmas.{next_read, next_past}
use Rattle.replica_store.proofs.listing.read_names.Goals as goal
use Rattle.replica_store.proofs.listing.read_names.Goals.{in-Some-read_name+in_ok-push, in_default-read_name}

pub loop-at-preserved : goal.loop-at-preserved
loop-at-preserved c =
    elim c.match-read_name.branch [
      | in-Some-read_name+in_ok-push w ↦
          let name = w.in-Some-read_name.name in
          next_read c.args.texts.now c.loop-at.at c.in-Some.text.now c.loop-at.names.items
          c.match-read_name.names.items name (sym c.in-Some.ensures) c.loop-at.invariant
          w.in-Some-read_name.ensures.found w.in-Some-read_name.ensures.valid
          (ap (λ names. names.items) w.names-is ∙ w.in_ok-push.ensures.items)
      | in_default-read_name w ↦
          next_past c.args.texts.now c.loop-at.at c.in-Some.text.now c.loop-at.names.items
          c.match-read_name.names.items (sym c.in-Some.ensures) c.loop-at.invariant
          w.in_default-read_name.ensures.only
          (ap (λ names. names.items) w.names-is)
    ]
