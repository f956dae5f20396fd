-- `words::lines::past` meets its contract: a byte is found, or none is.
use Rattle.std.proofs.Common.{rules, tests, ◌-◌, length, take, drop, eqb}
use Rattle.std.proofs.lemmas.Iterator.{YieldsList-from_slice}
use Rattle.std.proofs.lemmas.Iterator.Search.{position_from_yields_List}
use Rattle.words.proofs.Laws.Lines.{past_found, past_missing}
use Rattle.words.proofs.lines.past.Goals as goal
use Rattle.words.proofs.lines.past.Goals.{In-Some, In-None}

pub returns-in-Some-clause-value : goal.returns-in-Some-clause-value
returns-in-Some-clause-value c =
    past_found _ _ _ _ (position_from_yields_List {all = take (length c.args.bytes.now - c.args.at) (drop c.args.at c.args.bytes.now)} (λ x. eqb x c.args.b) _ _ _ c.position.ensures.ran (YieldsList-from_slice _ cc) (λ x b q k. search (rules, tests))) _ c.in-Some.is

pub returns-in-None-clause-value : goal.returns-in-None-clause-value
returns-in-None-clause-value c =
    past_missing _ _ _ _ (position_from_yields_List {all = take (length c.args.bytes.now - c.args.at) (drop c.args.at c.args.bytes.now)} (λ x. eqb x c.args.b) _ _ _ c.position.ensures.ran (YieldsList-from_slice _ cc) (λ x b q k. search (rules, tests))) (search rules) c.in-None.is
