use Rattle.std.specs.Fn.{FnReturnsAt}
use Rattle.table.specs.Running.{CountsBy}
use Rattle.table.proofs.Answering.{Answered}
use Rattle.table.proofs.tables.Table.play_run.Given as goal

abbrev pub invariant-loop-line : goal.invariant-loop-line
invariant-loop-line g l =
    Answered (g.K.Kind.meaning l.kind) (λ worth. CountsBy worth (FnReturnsAt g.F.Fn l.counted))
    l.initial.table.deal l.initial.asked l.line-index l.table.deal l.asked
