use Rattle.std.proofs.Common.{◌≡◌, ◌+◌, ◌-◌, ◌*◌, get_or, take, drop, replicate, sym, ap, ◌∙◌, arith}
use Rattle.std.proofs.lemmas.List.{get_or-drop, get_or-take, get_or-replicate, get_or_past}
use Rattle.writer.proofs.Reading.{column_read}
use Rattle.writer.proofs.known.Known.line.Goals as goal

pub returns-then-line-ge32 : goal.returns-then-line-ge32
returns-then-line-ge32 c =
    let whole = c.args.self.whole in
    column_read c.args.line c.args.self.sizes.now (replicate 256 0)
    (λ k h. get_or-replicate 256 k 0 0 h ∙ sym (get_or_past c.args.self.sizes.now (256 * c.args.line + k) 0 (omega arith)))

pub returns : goal.returns
returns c =
    let s = c.args.self.sizes.now in
    let at = 256 * c.args.line in
    let e : at + 256 - at ≡ 256 = omega arith in
    column_read c.args.line s (take (at + 256 - at) (drop at s))
    (λ k h. ap (λ n. get_or (take n (drop at s)) k 0) e ∙ get_or-take 256 (drop at s) k 0 h ∙ get_or-drop at s k 0)
