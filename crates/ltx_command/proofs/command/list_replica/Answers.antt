use Rattle.std.proofs.Common.{◌≡◌, List, refl, sym, ap, subst, ◌∙◌, arith}
use Rattle.crash_disk.specs.Output.{gains_text, GainsFront}
use Rattle.replica_listing.specs.Listing.{listing}
use Rattle.replica_store.specs.declared.dated_names.Dated.{Dated}
use Rattle.ls_answers.specs.declared.outcome.Why.TheVariants.{Done, SinkFault}
use Rattle.ltx_command.specs.Answers.{Explains}
use Rattle.ltx_command.specs.Seen.{seen_of}
use Rattle.ltx_command.proofs.ExactLemmas.{comes_exactly, explains_stop, never_done}
use Rattle.ltx_command.proofs.command.list_replica.Goals as goal

pub returns-in-Err : goal.returns-in-Err
returns-in-Err g c =
    let seen = seen_of g.S.Disk g.O.Out c.args.replica.now c.args.store.now c.gather.new.store c.args.out.now
    c.args.out.now in
    let explained : Explains seen c.why.result =
    subst (Explains seen) (sym c.why.ensures) (explains_stop seen c.in-Err.stop refl c.in-Err.ensures.explained) in
    record {
      explained = explained;
      exact = comes_exactly c.laws.ensures seen c.why.result explained;
      attached = λ done. absurd (never_done c.in-Err.stop (sym c.why.ensures ∙ done));
      unchanged = c.in-Err.ensures.unchanged;
      faults = record { store = c.in-Err.ensures.later; sink = omega arith };
    }

pub returns-in_default : goal.returns-in_default
returns-in_default g c =
    let seen = seen_of g.S.Disk g.O.Out c.args.replica.now c.args.store.now c.gather.new.store c.args.out.now
    c.print_listing.new.out in
    let dated = c.in-Ok.found.dated in
    let sizes = c.in-Ok.found.sizes.items in
    let same : listing c.as_slice.result.now c.as_slice-2.result.now ≡ listing dated sizes =
    ap (λ (d : List Dated). listing d c.as_slice-2.result.now) c.as_slice.ensures
    ∙ ap (listing dated) c.as_slice-2.ensures.value in
    let explained : Explains seen SinkFault = record {
      dated = dated;
      sizes = sizes;
      text = subst (GainsFront seen.text seen.text_after) same c.in_default.ensures.err;
      are = c.in-Ok.ensures.found;
      rose = c.in_default.ensures.cause.rose refl;
    } in
    record {
      explained = explained;
      exact = comes_exactly c.laws.ensures seen SinkFault explained;
      attached = λ done. absurd cc;
      unchanged = c.in-Ok.ensures.unchanged;
      faults = record { store = c.in-Ok.ensures.later; sink = c.in_default.ensures.cause.later };
    }

pub returns : goal.returns
returns g c =
    let seen = seen_of g.S.Disk g.O.Out c.args.replica.now c.args.store.now c.gather.new.store c.args.out.now
    c.print_listing.new.out in
    let dated = c.in-Ok.found.dated in
    let sizes = c.in-Ok.found.sizes.items in
    let same : listing c.as_slice.result.now c.as_slice-2.result.now ≡ listing dated sizes =
    ap (λ (d : List Dated). listing d c.as_slice-2.result.now) c.as_slice.ensures
    ∙ ap (listing dated) c.as_slice-2.ensures.value in
    let explained : Explains seen Done = record {
      dated = dated;
      sizes = sizes;
      text = c.in-Ok-print_listing.ensures.ok ∙ ap (gains_text seen.text) same;
      are = c.in-Ok.ensures.found;
    } in
    record {
      explained = explained;
      exact = comes_exactly c.laws.ensures seen Done explained;
      attached = λ done. c.in-Ok.ensures.attached;
      unchanged = c.in-Ok.ensures.unchanged;
      faults = record { store = c.in-Ok.ensures.later; sink = c.in-Ok-print_listing.ensures.cause.later };
    }
