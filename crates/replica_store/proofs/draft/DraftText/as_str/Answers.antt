use Rattle.std.proofs.lemmas.Str.{IsUtf8-from_ascii}
use Rattle.replica_store.proofs.draft.DraftText.as_str.Goals as goal

pub unreachable-requires : goal.unreachable-requires
unreachable-requires c = c.in_default.ensures.cases.0 (IsUtf8-from_ascii c.self.inside.bytes c.self.invariant)
