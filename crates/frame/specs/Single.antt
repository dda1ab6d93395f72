-- The call whole on the frame of document 01's program: what is allowed, where the lists are long enough and where they are not; and on
-- frames that rows 3, 18 and 7 refuse, whatever the lists.
use Rattle.std.specs.Prelude.{Err}
use Rattle.walk.specs.Call.{wrote}
use Rattle.std.specs.Prelude.{[], ◌∷◌, ℕ, replicate}
use Rattle.refusal.specs.declared.Refusal.TheVariants.{ParameterNan, NoSuchRule, TwinNotBack, WorkspaceShort, RecordsShort, EntriesShort}
use Rattle.measure.specs.Float.{bits}
use Rattle.mesh.specs.HalfEdge.{no_twin}
use Rattle.frame.specs.Stages.{Input}
use Rattle.frame.specs.Call.{Allowed}
use Rattle.frame.specs.Examples.{framed, program_frame}

-- a tolerance that is NaN; a half-edge 3 without a twin, though it is the twin of half-edge 2
abbrev pub no_tolerance : Input
no_tolerance = framed (bits 0x7FC00000) (no_twin ∷ no_twin ∷ 3 ∷ 2 ∷ no_twin ∷ no_twin ∷ [])

abbrev pub one_sided : Input
one_sided = framed (bits 0x3E800000) (no_twin ∷ no_twin ∷ 3 ∷ no_twin ∷ no_twin ∷ no_twin ∷ [])

-- one corner and no triangles; the rule, the spread limit and the corner's x, the last two by their bits, are given
abbrev pub ruled : (rule limit x : ℕ) → Input
ruled rule limit x =
    record {
      xs = bits x ∷ [];
      ys = bits 0 ∷ [];
      angles = bits 0 ∷ bits 0 ∷ [];
      marks = 0 ∷ 0 ∷ [];
      spreads = bits 0 ∷ bits 0 ∷ [];
      triangles = [];
      twins = [];
      params = record {
        edges = record { tolerance = bits 0; spread = record { number = rule; limit = bits limit } };
        filters = record { ratio = bits 0; least = bits 0; greatest = bits 0 };
        labels = record { quads = 0; corners = 0 };
      };
    }

pub record Single : Type 0 where
  -- labelled, with lists of just the length; and with longer ones, of which what stands behind is as it was
  pub exact : Allowed program_frame (replicate 160 5) (7 ∷ 7 ∷ 7 ∷ []) (replicate 12 7)
      (record { answer = wrote 1 4; work = replicate 160 0; components = 0 ∷ 4 ∷ 0 ∷ []; entries = 0 ∷ 0 ∷ 0 ∷ 0 ∷ 1 ∷ 3 ∷ 1 ∷ 0 ∷ 1 ∷ 1 ∷ 1 ∷ 2 ∷ [] })
  pub surplus : Allowed program_frame (replicate 163 5) (7 ∷ 7 ∷ 7 ∷ 7 ∷ []) (replicate 14 7)
      (record {
        answer = wrote 1 4;
        work = replicate 163 0;
        components = 0 ∷ 4 ∷ 0 ∷ 7 ∷ [];
        entries = 0 ∷ 0 ∷ 0 ∷ 0 ∷ 1 ∷ 3 ∷ 1 ∷ 0 ∷ 1 ∷ 1 ∷ 1 ∷ 2 ∷ 7 ∷ 7 ∷ [];
      })
  -- a workspace of one word too few; room for no component, and for three entries of four
  pub no_workspace : Allowed program_frame (replicate 159 5) (7 ∷ []) (8 ∷ []) (record { answer = Err (WorkspaceShort 160); work = replicate 159 5; components = 7 ∷ []; entries = 8 ∷ [] })
  pub no_room : Allowed program_frame (replicate 163 5) (7 ∷ 7 ∷ []) (8 ∷ []) (record { answer = Err (RecordsShort 1); work = replicate 163 0; components = 7 ∷ 7 ∷ []; entries = 8 ∷ [] })
  pub no_entries : Allowed program_frame (replicate 160 5) (7 ∷ 7 ∷ 7 ∷ []) (replicate 11 7)
      (record { answer = Err (EntriesShort 4); work = replicate 160 0; components = 7 ∷ 7 ∷ 7 ∷ []; entries = replicate 11 7 })
  -- rows 3, 18 and 7 come before row 8: a workspace of one word is not the cause
  pub nan_refused : Allowed no_tolerance (5 ∷ []) (7 ∷ []) (8 ∷ []) (record { answer = Err (ParameterNan 0); work = 5 ∷ []; components = 7 ∷ []; entries = 8 ∷ [] })
  -- rule 3 is refused behind a limit that is NaN and before a position that is
  pub limit_first : Allowed (ruled 3 0x7FC00000 0x7FC00000) (5 ∷ []) (7 ∷ []) (8 ∷ []) (record { answer = Err (ParameterNan 4); work = 5 ∷ []; components = 7 ∷ []; entries = 8 ∷ [] })
  pub rule_refused : Allowed (ruled 3 0 0x7FC00000) (5 ∷ []) (7 ∷ []) (8 ∷ []) (record { answer = Err NoSuchRule; work = 5 ∷ []; components = 7 ∷ []; entries = 8 ∷ [] })
  pub twin_refused : Allowed one_sided (5 ∷ []) (7 ∷ []) (8 ∷ []) (record { answer = Err (TwinNotBack 2 3); work = 5 ∷ []; components = 7 ∷ []; entries = 8 ∷ [] })
