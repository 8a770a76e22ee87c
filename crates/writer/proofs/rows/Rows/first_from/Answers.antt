use Rattle.std.proofs.Common.{ltb, rules, arith}
use Rattle.std.proofs.lemmas.Bool.{ltb-true, ltb-false}
use Rattle.std.proofs.lemmas.List.Sorted.{IsPartitionPoint-from_clause, IsPartitionedBy-ltb, IsNonDecreasingBy-from_default}
use Rattle.mtl.specs.Rows.{blank}
use Rattle.mtl.specs.declared.row.Row.{Row}
use Rattle.writer.proofs.rows.Rows.first_from.Goals as goal

pub returns : goal.returns
returns c =
    let R = c.args.self.all.now in
    let parts = IsPartitionPoint-from_clause (λ (r : Row). ltb r.time c.args.bound) R c.partition_point.result c.partition_point.ensures.partitioned
    (IsPartitionedBy-ltb (λ (r : Row). r.time) R c.args.bound (IsNonDecreasingBy-from_default (λ (r : Row). r.time) R blank c.args.self.rising)) (λ x b f' k. search rules) in
    record {
      high = c.partition_point.ensures.bound;
      before = λ j h. ltb-true _ _ (parts.0 j blank (omega arith) h);
      after = λ j h k. ltb-false _ _ (parts.1 j blank h k);
    }
