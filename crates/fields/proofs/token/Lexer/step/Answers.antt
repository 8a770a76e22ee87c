use Rattle.std.proofs.Common.{◌≡◌, ◌<◌, true, length, get_or, sym, refl, ap, ◌∙◌, subst, arith}
use Rattle.fields.specs.States.{agrees, is_dash, is_word, is_none}
use Rattle.fields.specs.Lexing.{Open}
use Rattle.fields.specs.declared.state.State.{State}
use Rattle.fields.specs.declared.state.State.TheVariants.{Inside, Dashed}
use Rattle.fields.proofs.Cutting.{sofar, grows, at_byte, now_dashed, now_inside, past_open, Ordinary, when_fresh, when_inside, when_dashed}
use Rattle.fields.proofs.token.Lexer.step.Goals as goal
use Rattle.fields.proofs.token.Lexer.step.Goals.{in_default-via-in-Dashed+in_default, in_default-via-in-Fresh+in_default, in_default-via-in-Inside+in_default, In_default}

pub invariant_of-self : goal.invariant_of-self
invariant_of-self c =
    let l = c.args.self.now in
    let s = l.text.now in
    let in_s : l.at < length s = c.requires.0 in
    let none : is_none (sofar s l.from l.at) ≡ true = ap (λ (x : State). agrees x (sofar s l.from l.at)) (sym c.in-Fresh-eq45.is-0) ∙ l.sofar in
    let one = past_open l.state (subst Open (sym c.in-Fresh-eq45.is-0) tt) in
    record { within = (omega arith, omega arith, omega arith); sofar = ap is_dash (grows s l.from l.at (omega arith) in_s) ∙ now_dashed _ (get_or s l.at 0) none (sym c.requires.1 ∙ c.in-Fresh-eq45.is-1) }

pub returns-in-Fresh-eq45 : goal.returns-in-Fresh-eq45
returns-in-Fresh-eq45 c =
    let l = c.args.self.now in
    record {
      rest = at_byte l.state Dashed l.text.now l.from l.at (subst Open (sym c.in-Fresh-eq45.is-0) tt) tt (omega arith) c.requires.0 (λ e. omega (arith, c.requires.1, c.in-Fresh-eq45.is-1));
      at = refl;
      text = refl;
      line = refl;
      field = refl;
    }

ordinary : (c : goal.In_default) → Ordinary c.args.self.now.state c.args.byte
ordinary c = elim c.in_default.branch [
  | in_default-via-in-Dashed+in_default w ↦ when_dashed _ _ (search arith) (λ e. omega arith)
  | in_default-via-in-Fresh+in_default w ↦ when_fresh _ _ (search arith) (λ e. omega arith) (λ e. omega arith)
  | in_default-via-in-Inside+in_default w ↦ when_inside _ _ (search arith) (λ e. omega arith)
]

pub invariant_of-self-in_default : goal.invariant_of-self-in_default
invariant_of-self-in_default c =
    let l = c.args.self.now in
    let s = l.text.now in
    let in_s : l.at < length s = c.requires.0 in
    let o = ordinary (goal.at.invariant_of-self-in_default c).In_default in
    let one = past_open l.state o.is_open in
    record { within = (omega arith, omega arith, omega arith); sofar = ap is_word (grows s l.from l.at (omega arith) in_s) ∙ now_inside l.state _ (get_or s l.at 0) l.sofar o.is_open (λ f e. o.minus f (c.requires.1 ∙ e)) }

pub returns-in_default : goal.returns-in_default
returns-in_default c =
    let l = c.args.self.now in
    let o = ordinary (goal.at.returns-in_default c).In_default in
    record {
      rest = at_byte l.state Inside l.text.now l.from l.at o.is_open tt (omega arith) c.requires.0 (λ e. o.space (c.requires.1 ∙ e));
      at = refl;
      text = refl;
      line = refl;
      field = refl;
    }
