-- Moments in memory as those of the model.
use Rattle.cosim_model.specs.Direct as model
use Rattle.histories.specs.declared.moments.Moment.{Moment}
use Rattle.histories.specs.declared.moments.Moment.TheVariants as moment

abbrev pub moment_of : Moment → model.Moment
moment_of (moment.Called call) = model.Moment.Called call
moment_of (moment.Boundary tick) = model.Moment.Boundary tick
