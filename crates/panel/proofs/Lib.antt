pub mod PanelIsDesk
pub mod ServesBoth
pub mod PanelSpace
pub mod PanelAllowance
