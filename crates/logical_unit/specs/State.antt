-- The state of the logical unit, and how commands move it.
use Rattle.std.specs.Prelude.{ℕ, Bool, true, false, cond, not, ◌&&◌, ◌||◌, List, [], ◌∷◌, Some, None, Option, ◌==◌, slice_index_or, slice_set}
use Rattle.sense.specs.declared.Attention.{Attention}
use Rattle.sense.specs.declared.Attention.TheVariants.{PowerOnOrReset, MediumChanged, ParametersChanged}
use Rattle.logical_unit.specs.declared.state.Condition.{Condition}
use Rattle.logical_unit.specs.declared.state.Condition.TheVariants.{Active, Idle, Standby, Sleep, Stopped}
use Rattle.logical_unit.specs.declared.settings.Settings.{Settings}
use Rattle.logical_unit.specs.declared.state.LogicalUnit.{LogicalUnit}
use Rattle.logical_unit.specs.ModePage.{default_settings}

-- one value for each of the four hosts
abbrev pub each_host : {A : Type 0} → (ℕ → A) → List A
each_host f = f 0 ∷ f 1 ∷ f 2 ∷ f 3 ∷ []

-- after MAKE
abbrev pub new_unit : LogicalUnit
new_unit =
    record {
      loaded = true;
      condition = Active;
      holder = None;
      bars = each_host (λ _. false);
      attentions = each_host (λ _. Some PowerOnOrReset);
      settings = default_settings;
    }

-- the state with one part changed
abbrev pub with_attentions : List (Option Attention) → LogicalUnit → LogicalUnit
with_attentions xs u = record { loaded = u.loaded; condition = u.condition; holder = u.holder; bars = u.bars; attentions = xs; settings = u.settings }

abbrev pub with_bars : List Bool → LogicalUnit → LogicalUnit
with_bars xs u = record { loaded = u.loaded; condition = u.condition; holder = u.holder; bars = xs; attentions = u.attentions; settings = u.settings }

abbrev pub with_holder : Option ℕ → LogicalUnit → LogicalUnit
with_holder h u = record { loaded = u.loaded; condition = u.condition; holder = h; bars = u.bars; attentions = u.attentions; settings = u.settings }

abbrev pub with_medium : Bool → Condition → LogicalUnit → LogicalUnit
with_medium l c u = record { loaded = l; condition = c; holder = u.holder; bars = u.bars; attentions = u.attentions; settings = u.settings }

abbrev pub with_settings : Settings → LogicalUnit → LogicalUnit
with_settings p u = record { loaded = u.loaded; condition = u.condition; holder = u.holder; bars = u.bars; attentions = u.attentions; settings = p }

-- a pending attention yields only to a higher one
abbrev pub higher : Option Attention → Attention → Attention
higher None a = a
higher (Some PowerOnOrReset) a = PowerOnOrReset
higher (Some MediumChanged) PowerOnOrReset = PowerOnOrReset
higher (Some MediumChanged) MediumChanged = MediumChanged
higher (Some MediumChanged) ParametersChanged = MediumChanged
higher (Some ParametersChanged) a = a

abbrev pub pending : LogicalUnit → ℕ → Option Attention
pending u h = slice_index_or u.attentions h None

abbrev pub raised_all : Attention → LogicalUnit → LogicalUnit
raised_all a u = with_attentions (each_host (λ h. Some (higher (pending u h) a))) u

abbrev pub raised_others : ℕ → Attention → LogicalUnit → LogicalUnit
raised_others h a u = with_attentions (slice_set (raised_all a u).attentions h (pending u h)) u

-- host h was told its attention
abbrev pub cleared : ℕ → LogicalUnit → LogicalUnit
cleared h u = with_attentions (slice_set u.attentions h None) u

-- PREVENT ALLOW
abbrev pub barred : ℕ → Bool → LogicalUnit → LogicalUnit
barred h b u = with_bars (slice_set u.bars h b) u

-- RESERVE
abbrev pub reserved : ℕ → LogicalUnit → LogicalUnit
reserved h u = with_holder (Some h) u

abbrev pub held_by : Option ℕ → ℕ → Bool
held_by None h = false
held_by (Some k) h = k == h

-- RELEASE: only the holder's ends the reservation
abbrev pub released : ℕ → LogicalUnit → LogicalUnit
released h u = cond (held_by u.holder h) (with_holder None u) u

-- RESET
abbrev pub unit_reset : LogicalUnit → LogicalUnit
unit_reset u = with_medium u.loaded Active (with_settings u.settings new_unit)

-- MODE SENSE: page control 2 asks for the defaults
abbrev pub shown_settings : ℕ → LogicalUnit → Settings
shown_settings control u = cond (control == 2) default_settings u.settings

abbrev pub same_bool : Bool → Bool → Bool
same_bool true b = b
same_bool false b = not b

abbrev pub same_settings : Settings → Settings → Bool
same_settings p q = same_bool p.wcd q.wcd && (p.performance == q.performance && same_bool p.writed q.writed)

-- MODE SELECT by host h: if a setting changed, the other hosts learn of it
abbrev pub settings_changed : ℕ → Settings → LogicalUnit → LogicalUnit
settings_changed h p u = with_settings p (cond (same_settings p u.settings) u (raised_others h ParametersChanged u))

-- START STOP UNIT by its power condition p, Start s and LoEj l: the next condition, whether the medium is then loaded,
-- and whether the store is flushed first
abbrev pub next_condition : ℕ → Bool → Condition → Condition
next_condition p s now =
    cond (p == 0) (cond s Active Stopped)
    (cond (p == 2) Idle (cond (p == 3) Standby (cond (p == 5) Sleep (cond (p == 1) Active (cond (p == 7) Active now)))))

abbrev pub next_loaded : ℕ → Bool → Bool → Bool → Bool
next_loaded p s l now = cond (p == 0 && l) s now

abbrev pub flushes_first : ℕ → Bool → Bool
flushes_first p s = p == 5 || (p == 0 && not s)

-- loading what was unloaded raises an attention for all hosts
abbrev pub started : ℕ → Bool → Bool → LogicalUnit → LogicalUnit
started p s l u =
    let loaded = next_loaded p s l u.loaded in
    with_medium loaded (next_condition p s u.condition) (cond (loaded && not u.loaded) (raised_all MediumChanged u) u)
