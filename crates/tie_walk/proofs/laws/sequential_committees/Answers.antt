use Rattle.tie_walk.specs.Sequences.{hit_weights}
use Rattle.tie_walk.specs.declared.sequential.SeqRule.TheVariants.{SeqPav, SeqCc, RevSeqPav}
use Rattle.tie_walk.proofs.SequenceLaws.{grown-winner, left-winner}
use Rattle.tie_walk.proofs.laws.sequential_committees.Goals as goal

pub returns : goal.returns
returns c = record {
  seqpav = λ e k set. grown-winner (hit_weights SeqPav e.m) e.m e.rows k set;
  seqcc = λ e k set. grown-winner (hit_weights SeqCc e.m) e.m e.rows k set;
  revseqpav = λ e k set fits. left-winner (hit_weights RevSeqPav e.m) e.m e.rows k set fits;
}
