use Rattle.std.proofs.Common.{refl, sym, subst, take, replicate, List, ℕ, ◌∙◌, inl, inr}
use Rattle.crash_disk.specs.Files.{IsReadOf, files_after}
use Rattle.replica_store.specs.Listing.{path_of, bytes_under}
use Rattle.replica_store.proofs.HeaderLemmas.{front_read, header_of_front, fault_of_front, numbers_equal}
use Rattle.replica_store.proofs.HeaderLemmas.{numbers_differ}
use Rattle.replica_store.proofs.heading.header_of.Goals as goal
use Rattle.replica_store.proofs.heading.header_of.Goals.{then-ne-via-then-ne, then-ne-via-else-ne+then-ne-2}

pub returns-in-Err-clause-explained : goal.returns-in-Err-clause-explained
returns-in-Err-clause-explained g c = (
  refl,
  λ events told.
      let path = path_of c.args.name.now in
      let read = front_read events path (replicate 100 0) c.read_at.new.into c.in_ok-count.count refl
      (subst (λ (q : List ℕ). IsReadOf events q 0 (replicate 100 0) c.read_at.new.into c.in_ok-count.count)
      (c.as_str.ensures ∙ c.write_name.ensures) (c.in_ok-count.ensures.value events told)) in
      sym (fault_of_front (take c.in_ok-count.count c.read_at.new.into) (bytes_under (files_after events) path) read)
      ∙ c.in-Err.ensures.fault,
)

pub returns-then-ne-clause-explained : goal.returns-then-ne-clause-explained
returns-then-ne-clause-explained g c = (
  refl,
  λ events told.
      let path = path_of c.args.name.now in
      let read = front_read events path (replicate 100 0) c.read_at.new.into c.in_ok-count.count refl
      (subst (λ (q : List ℕ). IsReadOf events q 0 (replicate 100 0) c.read_at.new.into c.in_ok-count.count)
      (c.as_str.ensures ∙ c.write_name.ensures) (c.in_ok-count.ensures.value events told)) in
      record {
        header = c.in-Ok.header;
        has = header_of_front (take c.in_ok-count.count c.read_at.new.into) (bytes_under (files_after events) path)
            c.in-Ok.header read c.in-Ok.ensures.found;
        differs = elim c.then-ne.branch [
          | then-ne-via-then-ne w ↦ inl (numbers_differ c.in-Ok.header.min c.args.name.now.min w.if-ne.ensures)
          | then-ne-via-else-ne+then-ne-2 w ↦ inr
              (numbers_differ c.in-Ok.header.max c.args.name.now.max w.if-ne-2.ensures)
        ];
      },
)

pub returns-clause-value : goal.returns-clause-value
returns-clause-value g c = λ events told.
    let path = path_of c.args.name.now in
    let read = front_read events path (replicate 100 0) c.read_at.new.into c.in_ok-count.count refl
    (subst (λ (q : List ℕ). IsReadOf events q 0 (replicate 100 0) c.read_at.new.into c.in_ok-count.count)
    (c.as_str.ensures ∙ c.write_name.ensures) (c.in_ok-count.ensures.value events told)) in
    record {
      has = header_of_front (take c.in_ok-count.count c.read_at.new.into) (bytes_under (files_after events) path)
          c.in-Ok.header read c.in-Ok.ensures.found;
      from_min = numbers_equal c.in-Ok.header.min c.args.name.now.min c.if-ne.ensures;
      to_max = numbers_equal c.in-Ok.header.max c.args.name.now.max c.if-ne-2.ensures;
    }
