use Rattle.std.proofs.Common.{refl}
use Rattle.fields.proofs.Cutting.{at_space}
use Rattle.fields.proofs.token.Lexer.cut.Goals as goal

pub returns : goal.returns
returns c =
    let l = c.args.self.now in
    record { word = refl; rest = at_space l.state l.text.now l.from l.at c.requires.1.1 c.requires.0 c.requires.1.0; text = refl; line = refl; field = refl }
