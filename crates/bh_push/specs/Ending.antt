-- Where a message may end.
use Rattle.std.specs.Prelude.{ℕ, Option, Some, None}
use Rattle.bh_spec.specs.declared.Kind.{Kind}
use Rattle.bh_spec.specs.declared.Kind.TheVariants.{Request, Response}
use Rattle.bh_spec.specs.declared.Omitted.TheVariants.{Nothing, Trailers, Both}
use Rattle.bh_push.specs.declared.body.Phase.{Phase}
use Rattle.bh_push.specs.declared.body.Phase.TheVariants as phases
use Rattle.bh_push.specs.declared.course.End.{End}
use Rattle.bh_push.specs.declared.course.Stage.{Stage}
use Rattle.bh_push.specs.declared.course.Stage.TheVariants as stages

-- behind the header section, and behind the content
abbrev pub end_in : Phase → Option End
end_in phases.Head = Some (record { omitted = Both; padding = 0 })
end_in phases.Length = None
end_in (phases.Run missing) = None
end_in phases.Over = Some (record { omitted = Trailers; padding = 0 })

abbrev pub end_at : Stage → Phase → Option End
end_at stages.Framing phase = None
end_at (stages.Control form) phase = None
end_at (stages.Status form before) phase = None
end_at (stages.BeforeInterim form before status) phase = None
end_at (stages.Interim form before status) phase = None
end_at (stages.BeforeHeader form) phase = None
end_at (stages.Header form) phase = None
end_at stages.Content phase = end_in phase
end_at (stages.Trailers form) phase = None
end_at (stages.Padding before) phase = Some (record { omitted = Nothing; padding = before })

-- the kind of a message by the status of a response, or none of a request
abbrev pub kind_by_status : Option ℕ → Kind
kind_by_status None = Request
kind_by_status (Some status) = Response
