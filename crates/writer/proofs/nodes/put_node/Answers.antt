use Rattle.std.proofs.Common.{take, refl, ◌∙◌, append_assoc, arith}
use Rattle.writer.specs.Written.{put_at, node}
use Rattle.std.proofs.lemmas.Slice.{put_mid-paste}
use Rattle.writer.proofs.nodes.put_node.Goals as goal

pub returns : goal.returns
unfolding put_at
returns c = record {
  upto = refl;
  holds = put_mid-paste c.args.at _ c.args.out.now _ (node c.args.node.line c.args.node.rule c.args.node.row c.args.node.count) 6 (c.copy_from_slice.ensures.after ∙ c.from.ensures) (omega arith) refl
      ∙ append_assoc (take c.args.at c.args.out.now) (node c.args.node.line c.args.node.rule c.args.node.row c.args.node.count) _;
}
