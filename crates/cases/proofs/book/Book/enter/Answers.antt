use Rattle.std.proofs.Common.{◌≡◌, ◌<◌, Some, length, arith, rules}
use Rattle.cases.proofs.Blank.{line_entered}
use Rattle.cases.proofs.book.Book.enter.Goals as goal

pub returns : goal.returns
returns c =
    let h : length c.args.self.now.records ≡ 32 = search rules in
    let l : c.args.line < length c.args.self.now.records = omega arith in
    line_entered c.args.self.now.records c.args.line c.args.row (Some c.args.ruling) c.enter.new.self l c.enter.ensures
