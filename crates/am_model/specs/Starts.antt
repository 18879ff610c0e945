-- Which activities an intent finds and which one a start reaches, by the device's rules.
use Rattle.std.specs.Prelude.{ℕ, Bool, true, List}
use Rattle.am_types.specs.declared.device.Rules.{Rules}
use Rattle.am_types.specs.declared.device.Rules.TheVariants.{Profile, Android12}
use Rattle.am_types.specs.declared.intent.Intent.{Intent}
use Rattle.am_types.specs.declared.manifest.Kind.{Kind}
use Rattle.am_types.specs.declared.manifest.Kind.TheVariants.{Activity, Service, Receiver}
use Rattle.am_types.specs.declared.resolve.Hit.{Hit}
use Rattle.am_types.specs.declared.resolve.Target.{Target}
use Rattle.am_model.specs.Boards.{Board}
use Rattle.am_model.specs.Candidates.{found_by, hits, hits_of}
use Rattle.am_model.specs.Targets.{choice, host_to_view, profile_narrowed, top}
use Rattle.am_model.specs.Links.{phone_choice, phone_narrowed}

-- a phone: the activities that are left of those that an intent finds
abbrev pub phone_left : Board → Intent → Bool → List Hit
phone_left board intent default_only =
    hits_of (phone_narrowed board intent default_only (found_by Android12 board.packages Activity intent default_only))

-- a phone: what a query for a kind shows; activities are narrowed
abbrev pub phone_shown : Board → Kind → Intent → Bool → List Hit
phone_shown board Activity intent default_only = phone_left board intent default_only
phone_shown board Service intent default_only = hits Android12 board.packages Service intent default_only
phone_shown board Receiver intent default_only = hits Android12 board.packages Receiver intent default_only

-- what a query for a kind shows
abbrev pub shown_by : Rules → Board → Kind → Intent → Bool → List Hit
shown_by Profile board kind intent default_only = hits Profile board.packages kind intent default_only
shown_by Android12 board kind intent default_only = phone_shown board kind intent default_only

-- what a query for a kind shows on the device
abbrev pub query_hits : Board → Kind → Intent → Bool → List Hit
query_hits board kind intent default_only = shown_by board.rules board kind intent default_only

-- the activities that a start may reach
abbrev pub left_by : Rules → Board → Intent → List Hit
left_by Profile board intent =
    profile_narrowed board intent (hits Profile board.packages Activity intent true) (host_to_view intent)
left_by Android12 board intent = phone_left board intent true

-- the activities that a start may reach on the device
abbrev pub start_hits : Board → Intent → List Hit
start_hits board intent = left_by board.rules board intent

-- which of these activities a start of the caller reaches
abbrev pub choice_by : Rules → Board → ℕ → List Hit → Target
choice_by Profile board caller left = choice (top left)
choice_by Android12 board caller left = phone_choice board caller left

-- which activity a start of the caller reaches on the device
abbrev pub target : Board → ℕ → Intent → Target
target board caller intent = choice_by board.rules board caller (start_hits board intent)
