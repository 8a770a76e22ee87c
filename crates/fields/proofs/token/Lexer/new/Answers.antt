use Rattle.fields.proofs.Wholeness.{whole}
use Rattle.fields.proofs.token.Lexer.new.Goals as goal

pub returns-clause-whole : goal.returns-clause-whole
returns-clause-whole c = whole c.args.text.now
