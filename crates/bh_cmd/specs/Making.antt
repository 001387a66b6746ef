-- What a maker of the input has ready and what it has still to make.
use Rattle.std.specs.Prelude.{◌≡◌, ◌≤◌, ◌+◌, ℕ, Bool, true, false, List, [], ◌++◌, length, take, drop}
use Rattle.bh_cmd.specs.Trials.{chunks_from, ending, TrialView}
use Rattle.bh_cmd.specs.declared.making.Maker.{Maker}
use Rattle.bh_cmd.specs.declared.trial_port.TrialPort.TheInside.{Inside}

-- the chunks and the ending that aren't made yet
abbrev pub unmade : Bool → ℕ → ℕ → ℕ → List ℕ
unmade true i k n = []
unmade false i k n = chunks_from i k n ++ ending

abbrev pub to_come : Maker → List ℕ
to_come m = drop m.at (take m.end m.ready) ++ unmade m.ended m.chunk m.made m.missing

-- What is ready lies in the buffer, and the numbers are those of a trial.
pub record IsSound (m : Maker) : Type 0 where
  pub room : length m.ready ≡ 1024
  pub inside : m.at ≤ m.end
  pub fits : m.end ≤ 1024
  pub chunks : m.chunk ≤ m.made
  pub most : m.made + m.missing ≤ 67108864
  pub done : m.ended ≡ true → m.missing ≡ 0

abbrev pub trial_view : Inside → TrialView
trial_view p = record { left = to_come p.maker; written = p.written; sum = p.sum }

abbrev pub IsSoundTrial : Inside → Type 0
IsSoundTrial p = IsSound p.maker
