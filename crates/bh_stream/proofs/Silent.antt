-- What a job that writes nothing does.
use Rattle.std.proofs.Common.{false, List, [], Ok, refl, arith}
use Rattle.bh_base.specs.Steps.{Step, none}
use Rattle.bh_spec.specs.Items.{Item}
use Rattle.bh_stream.specs.Jobs.{Sends, SendsRest}

pub sent_nothing : {S : Type 0} (step : S → Step → S → Type 0) (items : List Item) (s : S) → Sends step false 0 (λ q. []) (λ q. []) 0 0 (λ q. Unit {0}) (λ q. Unit {0}) items s (Ok tt) s
sent_nothing step items s = record {
  steps = [];
  chain = none;
  alone = λ e. refl;
  text = [];
  due = λ q. record { rest = []; split = refl };
  whole = (refl, refl, λ q. refl, omega arith, omega arith, λ q t. tt);
  part = tt;
}

pub sent_no_rest : {S : Type 0} (step : S → Step → S → Type 0) (s : S) → SendsRest step false [] s (Ok tt) s
sent_no_rest step s = record { steps = []; chain = none; alone = λ e. refl; whole = (refl, refl); part = tt }
