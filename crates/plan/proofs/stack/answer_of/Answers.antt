-- `stack::answer_of` meets its contract: what is known is the answer, else the rows are read and it is kept. Assumes nothing.
use Rattle.plan.proofs.Laws.Stack.{known-answer, known_same}
use Rattle.plan.proofs.stack.answer_of.Goals as goal

pub returns-in-Some : goal.returns-in-Some
returns-in-Some c =
    let a = c.args in
    let m = c.requires.remembers in
    record {
      value = known-answer a.plan.now a.known.now m a.bits _ c.in-Some.is;
      known_after = known_same a.plan.now a.known.now m a.bits _ c.in-Some.is;
    }
