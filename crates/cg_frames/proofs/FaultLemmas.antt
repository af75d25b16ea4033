-- Faults of frames and of streams are bad frames.
use Rattle.std.proofs.Common.{ℕ, List, [], ◌∷◌, Option, Some, None, Result, Ok, Err, refl, subst}
use Rattle.std.specs.Prelude.{IfSome, IfErr}
use Rattle.cg_types.specs.Answer.{Answers}
use Rattle.cg_types.specs.declared.fault.Fault.{Fault}
use Rattle.cg_types.specs.declared.fault.Fault.TheVariants as faults
use Rattle.cg_messages.specs.declared.message.Message.{Message}
use Rattle.cg_frames.specs.declared.layout.Layout.{Layout}
use Rattle.cg_frames.specs.Choosing.{frame_among}
use Rattle.cg_frames.specs.Faults.{IsBadFrame, IsBadFrameOr}
use Rattle.cg_frames.specs.Feeding.{Standing, standing_of, cut_of_piece, fed_all, IsPartial}
use Rattle.cg_frames.specs.Laws.{FaultsAreBadFrames}
use Rattle.cg_frames.proofs.FrontLemmas.{fault_among}
use Rattle.cg_frames.proofs.FeedingLemmas.{nothing_at, fed_partial}

-- A bad frame is a bad frame or another fault.
pub bad_or : (other f : Fault) → IsBadFrame f → IsBadFrameOr other f
bad_or other (faults.BadFrame place cause) bad = tt
bad_or other f bad = absurd bad

module _ (layouts : List Layout) where
  -- A refusal is a bad frame, or for want of memory.
  pub refusal_is_bad : (bytes : List ℕ) (result : Result (Option (Message × ℕ)) Fault)
      → Answers (λ (x : Option (Message × ℕ)). x) (frame_among layouts bytes) result
      → IfErr result (IsBadFrameOr faults.OutOfMemory)
  refusal_is_bad bytes (Ok x) is = tt
  refusal_is_bad bytes (Err faults.OutOfMemory) is = refl
  refusal_is_bad bytes (Err f) is = bad_or faults.OutOfMemory f (fault_among layouts bytes f is)

  -- The lasting fault is a bad frame.
  pub bad_standing : (held : List ℕ) (fault : Option Fault) → IsPartial layouts (standing_of held fault) → IfSome fault IsBadFrame
  bad_standing held None partial = tt
  bad_standing held (Some f) partial = partial

  bad_fault : (s : Standing) → IsPartial layouts s → IfErr s IsBadFrame
  bad_fault (Ok held) partial = tt
  bad_fault (Err f) partial = partial

  all_partial : (s : Standing) (pieces : List (List ℕ)) → IsPartial layouts s → IsPartial layouts (fed_all layouts s pieces).rest
  all_partial s [] partial = partial
  all_partial s (piece ∷ pieces) partial = all_partial (cut_of_piece layouts s piece).rest pieces (fed_partial layouts s piece (bad_fault s partial))

  pub faults_are_bad : FaultsAreBadFrames layouts
  faults_are_bad = record {
    read = fault_among layouts;
    fed = λ pieces f is. subst (IsPartial layouts) is (all_partial (Ok []) pieces (nothing_at layouts));
  }
