use Rattle.std.proofs.Common.{◌≡◌, sym, subst, ap, ◌∙◌}
use Rattle.replica_store.specs.Chain.{names_of}
use Rattle.retention.specs.Retained.{AreRetained}
use Rattle.retention.specs.Walk.{standing, dropped}
use Rattle.retention.specs.Drops.{AreDrops, AreMissing}
use Rattle.retention.proofs.DropLemmas.{are_lost}
use Rattle.retention.proofs.dropping.drops.Goals as goal

pub of-requires : goal.of-requires
of-requires c =
    let dated = c.args.dated.now in
    let kept = c.in_ok-kept.kept.items in
    let before = c.in_ok-before.before.items in
    let after = c.in_ok-after.after.items in
    let lost = c.in_ok-lost.lost.items in
    let are_before = subst (λ names. AreRetained names before) (c.as_slice.ensures.value ∙ c.in_ok-all.ensures)
    c.in_ok-before.ensures in
    let stands : c.as_slice-4.result.now ≡ standing kept dated = c.as_slice-4.ensures.value ∙ c.in_ok-stay.ensures
    ∙ ap (λ ks. standing ks dated) c.as_slice-3.ensures.value in
    let are_after = subst (λ names. AreRetained names after) stands c.in_ok-after.ensures in
    let are_missing = subst (λ ts. AreMissing ts after lost) c.as_slice-5.ensures.value
    (subst (λ ts. AreMissing c.as_slice-5.result.now ts lost) c.as_slice-6.ensures.value c.in_ok-lost.ensures) in
    let is : AreDrops dated c.args.cut c.in_ok-names.names.items lost = record {
      kept = kept;
      walk = c.in_ok-kept.ensures.walk;
      drops = c.in_ok-names.ensures ∙ ap (λ ks. dropped ks dated) c.as_slice-7.ensures.value;
      losses = are_lost (names_of dated) (standing kept dated) before after lost are_before are_after are_missing;
      protected = c.in_ok-kept.ensures.protected;
      least = c.in_ok-kept.ensures.least;
    } in
    subst (λ ds. AreDrops ds c.args.cut c.in_ok-names.names.items lost) (sym c.in_ok-from_slice.ensures.items) is
