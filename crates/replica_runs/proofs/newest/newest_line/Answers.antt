use Rattle.std.proofs.Common.{List, refl, subst, ◌∙◌}
use Rattle.replica_store.specs.declared.file_name.FileName.{FileName}
use Rattle.replica_runs.specs.Newest.{IsNewestOf}
use Rattle.replica_runs.proofs.newest.newest_line.Goals as goal

pub returns-clause-value : goal.returns-clause-value
returns-clause-value g c = λ events told. record {
  name = c.in-Some.name;
  is = record {
    names = c.in_ok-names.names;
    listed = c.in_ok-names.ensures.value events told;
    is = subst (λ (names : List FileName). IsNewestOf names c.in-Some.name) c.as_slice.ensures c.in-Some.ensures.some;
  };
  header = c.in_ok-header.header;
  under = c.in_ok-header.ensures.value events (c.in_ok-names.ensures.unchanged ∙ told);
  told = refl;
}
