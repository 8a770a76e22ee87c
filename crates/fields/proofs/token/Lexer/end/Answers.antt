use Rattle.std.proofs.Common.{sym, refl, ap, ◌∙◌, subst, ⊎_elim}
use Rattle.fields.specs.States.{agrees}
use Rattle.fields.specs.Lexing.{Open}
use Rattle.fields.specs.Tokens.{first_of, rest_of, field_after}
use Rattle.fields.specs.declared.state.State.{State}
use Rattle.fields.proofs.Cutting.{at_end, word_by, dash_by, sofar}
use Rattle.fields.proofs.token.Lexer.end.Goals as goal

pub returns-in-Dashed : goal.returns-in-Dashed
returns-in-Dashed c =
    let l = c.args.self.now in
    let is = c.in-Dashed.is in
    let all = at_end l.state l.text.now l.from l.at (subst Open (sym is) tt) c.requires in
    record {
      token = dash_by (sofar l.text.now l.from l.at) (ap (λ (x : State). agrees x (sofar l.text.now l.from l.at)) (sym is) ∙ l.sofar) ∙ ap first_of (sym all);
      rest = ap rest_of (sym all);
      text = refl;
      line = refl;
      field = ap (λ fs. field_after fs l.field) (sym all);
    }

pub returns-in-Fresh : goal.returns-in-Fresh
returns-in-Fresh c =
    let l = c.args.self.now in
    let is = c.in-Fresh.is in
    let o : Open l.state = ⊎_elim (λ e. subst Open (sym e) tt) (λ e. subst Open (sym e) tt) is in
    let all = at_end l.state l.text.now l.from l.at o c.requires in
    record {
      token = word_by l.state (sofar l.text.now l.from l.at) is l.sofar ∙ ap first_of (sym all);
      rest = ap rest_of (sym all);
      text = refl;
      line = refl;
      field = ap (λ fs. field_after fs l.field) (sym all);
    }
