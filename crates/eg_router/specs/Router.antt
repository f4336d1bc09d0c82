-- The router: its interfaces and the mode that it is in, and what a command makes of it.
use Rattle.std.specs.Prelude.{ℕ, if◌then◌else◌, List, [], ◌∷◌}
use Rattle.cm_files.specs.OneDirectory.{no_files}
use Rattle.eg_router.specs.Interfaces.{may_enter, place, with_change, with_name, without_name}
use Rattle.eg_router.specs.declared.command.Command.{Command}
use Rattle.eg_router.specs.declared.command.Command.TheVariants as commands
use Rattle.eg_router.specs.declared.interface.Change.{Change}
use Rattle.eg_router.specs.declared.interface.Interface.{Interface}
use Rattle.eg_router.specs.declared.router.Mode.{Mode}
use Rattle.eg_router.specs.declared.router.Mode.TheVariants as modes
use Rattle.eg_router.specs.declared.router.Router.{Router}

-- without interfaces
abbrev pub router_start : Router
router_start = record { grammar = tt; names = no_files; interfaces = []; mode = modes.User }

-- where these interfaces are configured
abbrev pub configuring : List Interface → Router
configuring interfaces = record {
  grammar = tt;
  names = no_files;
  interfaces = interfaces;
  mode = modes.Configuration;
}

-- one mode up
abbrev pub above : Mode → Mode
above modes.User = modes.Ended
above modes.Privileged = modes.User
above modes.Configuration = modes.Privileged
above (modes.Interface at) = modes.Configuration
above modes.Protocol = modes.Configuration
above modes.Ended = modes.Ended

-- in the mode of the interface of this name, which is made where there is none; where it may not be made all stays
abbrev pub entered : List ℕ → Router → Router
entered name at =
    if may_enter name at.interfaces
    then record at { interfaces = with_name name at.interfaces; mode = modes.Interface (place name at.interfaces) }
    else at

-- a change is of the interface whose mode it is
abbrev pub with_setting : Mode → Change → List Interface → List Interface
with_setting (modes.Interface at) change interfaces = with_change at change interfaces
with_setting mode change interfaces = interfaces

-- [router-setting] what a command makes of the router
abbrev pub obeyed : Command → Router → Router
obeyed commands.Nothing at = at
obeyed (commands.Go mode) at = record at { mode = mode }
obeyed commands.Exit at = record at { mode = above at.mode }
obeyed (commands.Interface name) at = entered name at
obeyed (commands.NoInterface name) at = record at { interfaces = without_name name at.interfaces }
obeyed (commands.Set change) at = record at { interfaces = with_setting at.mode change at.interfaces }
obeyed (commands.Show what) at = at

-- and what several do, one after the other
abbrev pub obeyed_all : List Command → Router → Router
obeyed_all [] at = at
obeyed_all (command ∷ more) at = obeyed_all more (obeyed command at)
