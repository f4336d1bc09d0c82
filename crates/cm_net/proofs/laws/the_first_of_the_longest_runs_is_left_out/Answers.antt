use Rattle.std.proofs.NetLemmas.Texts.{IsZeroRun-longest_zero_run, longest_zero_run_first}
use Rattle.cm_net.proofs.laws.the_first_of_the_longest_runs_is_left_out.Goals as goal

pub returns : goal.returns
returns c = record {
  zeros = IsZeroRun-longest_zero_run;
  first = λ segments start size within zeros. longest_zero_run_first segments start size (within, zeros);
}
