-- The keyword tables of the router, each entry with its code and the node after it.
use Rattle.std.specs.Prelude.{ℕ, List, [], ◌∷◌, codes}
use Rattle.cm_tables.specs.declared.entry.Entry.{Entry}
use Rattle.cm_tables.specs.Words.{entry, with_help}
use Rattle.eg_router.specs.declared.grammar.TheConstants.{ADDRESS, CONFIGURE, DESCRIPTION, ENABLE, END, EXIT, INTERFACE, LINE_END, NO, ROUTER, RUNNING, SHOW, SHUTDOWN, VERSION}

-- a keyword, and what `?` says of it
abbrev pub word : List ℕ → ℕ → ℕ → List ℕ → Entry
word text code next help = with_help help (entry text code next)

-- in the order of the modes; then after CONFIGURE, after SHOW, after NO where interfaces are made, and after NO in the
-- mode of an interface
unfoldable pub router_tables : List (List Entry)
router_tables =
    (word (codes "ENABLE") ENABLE LINE_END (codes "Turn on privileged mode")
    ∷ word (codes "EXIT") EXIT LINE_END (codes "Exit current mode")
    ∷ word (codes "SHOW") SHOW 7 (codes "Show the system") ∷ [])
    ∷ (word (codes "CONFIGURE") CONFIGURE 6 (codes "Configure the router")
    ∷ word (codes "EXIT") EXIT LINE_END (codes "Exit current mode")
    ∷ word (codes "SHOW") SHOW 7 (codes "Show the system") ∷ [])
    ∷ (word (codes "END") END LINE_END (codes "End current mode")
    ∷ word (codes "EXIT") EXIT LINE_END (codes "Exit current mode")
    ∷ word (codes "INTERFACE") INTERFACE 11 (codes "Select an interface")
    ∷ word (codes "NO") NO 8 (codes "Negate a command")
    ∷ word (codes "ROUTER") ROUTER 12 (codes "Start a routing process") ∷ [])
    ∷ (word (codes "ADDRESS") ADDRESS 14 (codes "Set the IP address")
    ∷ word (codes "DESCRIPTION") DESCRIPTION 13 (codes "Describe the interface")
    ∷ word (codes "END") END LINE_END (codes "End current mode")
    ∷ word (codes "EXIT") EXIT LINE_END (codes "Exit current mode")
    ∷ word (codes "NO") NO 10 (codes "Negate a command")
    ∷ word (codes "SHUTDOWN") SHUTDOWN LINE_END (codes "Shut the interface down") ∷ [])
    ∷ (word (codes "END") END LINE_END (codes "End current mode")
    ∷ word (codes "EXIT") EXIT LINE_END (codes "Exit current mode") ∷ [])
    ∷ (word (codes "TERMINAL") CONFIGURE LINE_END (codes "From the terminal") ∷ [])
    ∷ (word (codes "INTERFACES") INTERFACE LINE_END (codes "Interface status")
    ∷ word (codes "RUNNING-CONFIG") RUNNING LINE_END (codes "The configuration")
    ∷ word (codes "VERSION") VERSION LINE_END (codes "System version") ∷ [])
    ∷ (word (codes "INTERFACE") INTERFACE 9 (codes "Remove an interface") ∷ [])
    ∷ (word (codes "ADDRESS") ADDRESS LINE_END (codes "Take the IP address")
    ∷ word (codes "DESCRIPTION") DESCRIPTION LINE_END (codes "Take the description")
    ∷ word (codes "SHUTDOWN") SHUTDOWN LINE_END (codes "Take the interface up") ∷ [])
    ∷ []
