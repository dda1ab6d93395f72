-- The structs that cross the boundary to C: each is an answer in document 01's numbers, field by field; those that no call with twins answers
-- leave out what stands beside the place. And the parameters, which cross one by one.
use Rattle.std.specs.Prelude.{Result}
use Rattle.refusal.specs.declared.Refusal.{Refusal}
use Rattle.std.specs.Prelude.{cond, List, ◌≡◌, ℕ, Float}
use Rattle.refusal.specs.InNumbers.{InNumbers}
use Rattle.axis.specs.declared.AxisCache.{AxisCache}
use Rattle.classify.specs.declared.EdgeParams.{EdgeParams}
use Rattle.classify.specs.Call as edges
use Rattle.quads.specs.Call as pairs
use Rattle.filter.specs.declared.FilterParams.{FilterParams}
use Rattle.filter.specs.Input.{Input}
use Rattle.filter.specs.Call as filters
use Rattle.fates.specs.declared.LabelParams.{LabelParams}
use Rattle.walk.specs.declared.Labelled.{Labelled}
use Rattle.walk.specs.Input as walk
use Rattle.walk.specs.Call as walk_call
use Rattle.frame.specs.declared.Params.{Params}
use Rattle.frame.specs.Stages as frame
use Rattle.frame.specs.Call as frame_call
use Rattle.abi.specs.declared.Number.{Number}
use Rattle.abi.specs.declared.Apart.{Apart}
use Rattle.abi.specs.declared.Cache.{Cache}
use Rattle.abi.specs.declared.Verdict.{Verdict}
use Rattle.abi.specs.declared.Count.{Count}
use Rattle.abi.specs.declared.Counts.{Counts}

abbrev pub number_from : InNumbers Float → Number
number_from t = record { refused = t.refused; place = t.place; value = t.values }

abbrev pub apart_from : ℕ × Float → Apart
apart_from d = record { known = d.0; value = d.1 }

-- an informative axis is told as 1
abbrev pub cache_from : InNumbers AxisCache → Cache
cache_from t =
    record {
      refused = t.refused;
      place = t.place;
      angle0 = t.values.angle0;
      informative0 = cond t.values.informative0 1 0;
      angle1 = t.values.angle1;
      informative1 = cond t.values.informative1 1 0;
    }

abbrev pub verdict_from : InNumbers Unit → Verdict
verdict_from t = record { refused = t.refused; place = t.place }

abbrev pub count_from : InNumbers ℕ → Count
count_from t = record { refused = t.refused; place = t.place; beside = t.beside; count = t.values }

abbrev pub counts_from : InNumbers (ℕ × ℕ) → Counts
counts_from t = record { refused = t.refused; place = t.place; beside = t.beside; components = t.values.0; entries = t.values.1 }

-- what is told of the classes, and the lists of classes and of fits after
pub record ClassesTold : Type 0 where
  pub told : Verdict
  pub classes : List ℕ
  pub fits : List Float

abbrev pub classes_told : edges.Outcome → ClassesTold
classes_told o = record { told = verdict_from (edges.classified_told o.answer); classes = o.classes; fits = o.fits }

-- what is told of the quads, and the quad list after
pub record QuadsTold : Type 0 where
  pub told : Count
  pub quads : List ℕ

abbrev pub quads_told : pairs.Outcome → QuadsTold
quads_told o = record { told = count_from (pairs.merged_told o.answer); quads = o.quads }

-- what is told of the filters, and both lists after, are an outcome that the call allows
pub record FilterTold (i : Input) (work kept : List ℕ) (told : Count) (work_after kept_after : List ℕ) : Type 0 where
  pub answer : Result ℕ Refusal
  pub tells : told ≡ count_from (filters.filtered_told answer)
  pub allowed : filters.Allowed i work kept (record { answer = answer; work = work_after; kept = kept_after })

-- what is told, and the three lists after, are an outcome that is allowed
pub record CountsTold (allows : walk_call.Outcome → Type 0) (told : Counts) (work_after components_after entries_after : List ℕ) : Type 0 where
  pub answer : Result Labelled Refusal
  pub tells : told ≡ counts_from (walk_call.labelled_told answer)
  pub allowed : allows (record { answer = answer; work = work_after; components = components_after; entries = entries_after })

-- of the labelling, and of a whole frame
abbrev pub LabelTold : (i : walk.Input) (work components entries : List ℕ) → Counts → List ℕ → List ℕ → List ℕ → Type 0
LabelTold i work components entries = CountsTold (walk_call.Allowed i work components entries)

abbrev pub FrameTold : (i : frame.Input) (work components entries : List ℕ) → Counts → List ℕ → List ℕ → List ℕ → Type 0
FrameTold i work components entries = CountsTold (frame_call.Allowed i work components entries)

-- the parameters of each call
abbrev pub edges_by : (tolerance limit : Float) (rule : ℕ) → EdgeParams
edges_by tolerance limit rule = record { tolerance = tolerance; spread = record { number = rule; limit = limit } }

abbrev pub filters_by : (ratio least greatest : Float) → FilterParams
filters_by ratio least greatest = record { ratio = ratio; least = least; greatest = greatest }

abbrev pub labels_by : (quads corners : ℕ) → LabelParams
labels_by quads corners = record { quads = quads; corners = corners }

abbrev pub params_by : (tolerance ratio least greatest limit : Float) (quads corners rule : ℕ) → Params
params_by tolerance ratio least greatest limit quads corners rule =
    record { edges = edges_by tolerance limit rule; filters = filters_by ratio least greatest; labels = labels_by quads corners }
